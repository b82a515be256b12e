-- Pixels of a picture are corners in range. Assumes nothing.
use Prim.Native.Nat.{◌≤◌}
use native.Mathlib.Omega.{arith}
use lib.IntN.{ℤ, nat_abs}
use Rattle.refusals.specs.Limits.{farthest}
use Rattle.points.specs.declared.Point.{Point}
use Rattle.points.specs.Range.{Inside, Within, Near}

inside_near : {z : ℤ} → Inside z → nat_abs z ≤ farthest
inside_near i = let low = i.low in rw i.is (omega arith)

pub within_near : {p : Point} → Within p → Near p
within_near q = record { x_low = inside_near q.x; y_low = inside_near q.y }
