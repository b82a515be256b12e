-- `is_along` goes by the sign, and then by the side's end. Assumes nothing.
use Prim.Native.Nat.{ℕ}
use mathlib.Core.Path.{◌≡◌, refl, sym}
use mathlib.Core.Bool.{true, false, true≢false}
use native.Mathlib.Omega.{arith}
use lib.Dec.{ltb}
use lib.IntN.{ℤ, pos, negsuc, nat_abs}
use lib.Signed.{le_z}
use borrow.Author.Tests.{leb-false}
use mir.Facts.{to_z-of_z}
use Rattle.fit.specs.Tests.{along}
use Rattle.fit.proofs.ladder.is_along.Goals as goal

size_along : (side : ℕ) (z : ℤ) → le_z (pos 0) z ≡ true → ltb (nat_abs z) side ≡ along side z
unfolding along
size_along side (pos n) h = refl
size_along side (negsuc n) h = absurd (true≢false (sym h))

below : (side : ℕ) (z : ℤ) → le_z (pos 0) z ≡ false → le_z (pos 0) z ≡ along side z
unfolding along
below side (pos n) h = let k = leb-false 0 n h in absurd (omega arith)
below side (negsuc n) h = refl

pub returns-then-z-ge0 : goal.returns-then-z-ge0
returns-then-z-ge0 c = rw (to_z-of_z c.ranges.z) (size_along _ _ (rw (to_z-of_z c.ranges.z) at c.if-z-ge0.true))

pub returns-else-z-ge0 : goal.returns-else-z-ge0
returns-else-z-ge0 c = rw (to_z-of_z c.ranges.z) (below _ _ (rw (to_z-of_z c.ranges.z) at c.if-z-ge0.false))
