-- How far apart two points lie, and how far a point lies in a direction. Assumes nothing.
use Rattle.std.specs.Prelude.{◌+◌, ◌≤◌, ℤ, nat_abs, neg_ℤ, ◌+ℤ◌, ◌-ℤ◌, ◌*ℤ◌}
use Rattle.refusals.specs.Limits.{farthest}
use Rattle.points.specs.declared.Point.{Point}

-- z is a difference of two coordinates that document 01 lets a stated point have (refusal 12)
pub record Span (z : ℤ) : Type 0 where
  pub low : nat_abs z ≤ farthest + farthest

-- d leads from one such point to another
pub record Direction (d : Point) : Type 0 where
  pub x : Span d.x
  pub y : Span d.y

-- the square of the distance between p and q
unfoldable pub distance_of : Point → Point → ℤ
distance_of p q =
    let dx = q.x -ℤ p.x in
    let dy = q.y -ℤ p.y in
    dx *ℤ dx +ℤ dy *ℤ dy

-- how far p lies in the direction d, times d's length
unfoldable pub along_of : Point → Point → ℤ
along_of d p = p.x *ℤ d.x +ℤ p.y *ℤ d.y

-- how far p lies to the right of the direction d, times d's length; y counts downwards
unfoldable pub across_of : Point → Point → ℤ
across_of d p = p.y *ℤ d.x -ℤ p.x *ℤ d.y

-- the same, the other way: how far p lies behind, and how far to the left
unfoldable pub behind_of : Point → Point → ℤ
behind_of d p = neg_ℤ (along_of d p)

unfoldable pub left_of : Point → Point → ℤ
left_of d p = neg_ℤ (across_of d p)

-- the direction that leads from p to q
unfoldable pub line_from : Point → Point → Point
line_from p q = record { x = q.x -ℤ p.x; y = q.y -ℤ p.y }
