-- What the calls on lines and scans answer, in terms of the crates that they lead to. Assumes nothing.
use Rattle.std.specs.Prelude.{ℕ, List, [], ◌∷◌, ℤ, length, Option, Some, None}
use Rattle.refusals.specs.Finding.{Finding, found}
use Rattle.refusals.specs.First.{first}
use Rattle.points.specs.declared.Point.{Point}
use Rattle.lines.specs.Meet.{meet_of}
use Rattle.scans.specs.Scan.{scan_of}
use Rattle.scans.specs.Points.{points}
use Rattle.told.specs.Answer.{Values, these, nothing, fewer_than}
use Rattle.told.specs.Points.{point_at, no_pixel, too_far}

-- x and y, or nothing
unfoldable pub meet_values : Option Point → Finding (Values ℤ)
meet_values (Some p) = found (these (p.x ∷ p.y ∷ []))
meet_values None = found nothing

-- where two lines cross, for points that are pixels (12)
unfoldable pub cross_values : Point → Point → Point → Point → Finding (Values ℤ)
cross_values p0 p1 q0 q1 =
    first (no_pixel p0 ∷ no_pixel p1 ∷ no_pixel q0 ∷ no_pixel q1 ∷ []) (meet_values (meet_of p0 p1 q0 q1))

-- the same for four points, lent as x0 y0 .. x3 y3
unfoldable pub cross_answer : List ℤ → ℕ → Finding (Values ℤ)
cross_answer ns room =
    first (fewer_than 8 (length ns) ∷ fewer_than 2 room ∷ []) (cross_values (point_at ns 0 1) (point_at ns 2 3) (point_at ns 4 5) (point_at ns 6 7))

-- points as numbers, x before y
unfoldable pub flat : List Point → List ℤ
flat [] = []
flat (p ∷ ps) = p.x ∷ p.y ∷ flat ps

-- every point of a scan, for ends that are near (12), where there are places for all of them (3)
unfoldable pub scan_answer : Point → Point → ℕ → Finding (Values ℤ)
scan_answer p q room =
    let seen = flat (points (scan_of p q)) in
    first (too_far p ∷ too_far q ∷ fewer_than (length seen) room ∷ []) (found (these seen))
