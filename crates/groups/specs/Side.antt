-- On which side of a line a point lies. Definitions alone.
use Rattle.std.specs.Prelude.{ℤ, neg_ℤ}
use Rattle.points.specs.declared.Point.{Point}
use Rattle.corners.specs.Scores.{across_of, line_from}

-- how far p lies to the right of the line through h0 in the direction hd, times the length of hd: below 0 it lies to the left, at 0 on the line. Arithmetic; y counts downwards
unfoldable pub side_of : Point → Point → Point → ℤ
side_of h0 hd p = across_of hd (line_from h0 p)

-- the opposite direction
unfoldable pub reversed : Point → Point
reversed d = record { x = neg_ℤ d.x; y = neg_ℤ d.y }
