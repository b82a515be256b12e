-- Signed text, by the sign. Assumes nothing.
use mathlib.Core.Path.{◌≡◌, refl}
use mathlib.Core.Bool.{true, false, true≢false}
use mathlib.Core.List.{◌∷◌}
use native.Mathlib.Omega.{arith}
use borrow.Author.Tests.{ltb-true}
use lib.IntN.{ℤ, pos, negsuc, nat_abs}
use lib.Signed.{lt_z}
use Rattle.report.specs.Numbers.{decimal, signed}

pub below_signed : (z : ℤ) → lt_z z (pos 0) ≡ true → signed z ≡ 45 ∷ decimal (nat_abs z)
unfolding signed
below_signed (pos n) h = absurd (omega (arith, ltb-true n 0 h))
below_signed (negsuc n) h = refl

pub from_signed : (z : ℤ) → lt_z z (pos 0) ≡ false → signed z ≡ decimal (nat_abs z)
unfolding signed
from_signed (pos n) h = refl
from_signed (negsuc n) h = absurd (true≢false h)
