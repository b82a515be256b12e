-- What `clamped` answers: 0 below 0, a coordinate of the side itself, and the last one beyond. It is always on the side. Assumes nothing.
use Prim.Native.Nat.{ℕ, ◌-◌, ◌≤◌, ◌<◌}
use native.Mathlib.Omega.{arith}
use mathlib.Core.Path.{◌≡◌, refl}
use mathlib.Core.Bool.{true}
use lib.IntN.{ℤ, pos, negsuc}
use lib.Signed.{lt_z}
use borrow.Author.Tests.{ltb-true}
use Rattle.pixels.specs.Nearest.{clamped}

pub below : (side : ℕ) (z : ℤ) → lt_z z (pos 0) ≡ true → clamped side z ≡ 0
unfolding clamped
below side (pos n) h = let k = ltb-true n 0 h in absurd (omega arith)
below side (negsuc n) h = refl

pub on_side : (side n : ℕ) → n < side → clamped side (pos n) ≡ n
unfolding clamped
on_side side n h = omega arith

pub beyond : (side n : ℕ) → side ≤ n → clamped side (pos n) ≡ side - 1
unfolding clamped
beyond side n h = omega arith

pub stays : (side : ℕ) (z : ℤ) → 0 < side → clamped side z < side
unfolding clamped
stays side (pos n) some = omega arith
stays side (negsuc n) some = some
