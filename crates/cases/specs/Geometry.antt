-- Document 01's examples of geometry. Assumes nothing.
use Rattle.std.specs.Prelude.{List, [], ◌∷◌, true, false, ℤ, pos, negsuc, Float, Some}
use Rattle.std.specs.Float.{fin}
use Rattle.refusals.specs.Finding.{found}
use Rattle.points.specs.declared.Point.{Point}
use Rattle.geometry.specs.Create.{sight_of}
use Rattle.geometry.specs.Map.{mapped}
use Rattle.geometry.specs.declared.Perspective.{Perspective}
use Rattle.geometry.specs.declared.Sight.TheVariants.{Made, Flat}
use Rattle.lines.specs.Meet.{meet_of}
use Rattle.scans.specs.Scan.{scan_of}
use Rattle.scans.specs.Points.{points}
use Rattle.cases.specs.Case.{Case, ◌answers◌}

abbrev at : ℤ → ℤ → Point
at x y = record { x = x; y = y }

abbrev seven : Float
seven = fin false 7 (pos 0)

-- 1, -0, 10, 0, 1, 10, 0, 0: the second a negative zero. A float is its sign, its odd part and its power of 2: ten is 5 x 2
abbrev square : Perspective
square = record {
  c0 = fin false 1 (pos 0);
  c1 = fin true 0 (pos 0);
  c2 = fin false 5 (pos 1);
  c3 = fin false 0 (pos 0);
  c4 = fin false 1 (pos 0);
  c5 = fin false 5 (pos 1);
  c6 = fin false 0 (pos 0);
  c7 = fin false 0 (pos 0);
}

unfoldable pub geometry : List Case
geometry =
    -- corners (10,10) (17,10) (17,17) (10,17), 7 by 7
    (sight_of (at (pos 10) (pos 10)) (at (pos 17) (pos 10)) (at (pos 17) (pos 17)) (at (pos 10) (pos 17)) seven seven
    answers Made square)
    -- (0.5, 0.5) maps to (11,11)
    ∷ (mapped square (fin false 1 (negsuc 0)) (fin false 1 (negsuc 0)) answers found (at (pos 11) (pos 11)))
    -- (-12.5, 0) maps to (-3,10)
    ∷ (mapped square (fin true 25 (negsuc 0)) (fin false 0 (pos 0)) answers found (at (negsuc 2) (pos 10)))
    -- corners in the opposite turn are flat
    ∷ (sight_of (at (pos 10) (pos 10)) (at (pos 10) (pos 17)) (at (pos 17) (pos 17)) (at (pos 17) (pos 10)) seven seven
    answers Flat)
    -- (0,0)-(1,1) meets (0,1)-(1,0) at (0,0)
    ∷ (meet_of (at (pos 0) (pos 0)) (at (pos 1) (pos 1)) (at (pos 0) (pos 1)) (at (pos 1) (pos 0)) answers Some (at (pos 0) (pos 0)))
    -- scan (0,0) to (3,1): (0,0) (1,0) (2,1) (3,1)
    ∷ (points (scan_of (at (pos 0) (pos 0)) (at (pos 3) (pos 1)))
    answers (at (pos 0) (pos 0) ∷ at (pos 1) (pos 0) ∷ at (pos 2) (pos 1) ∷ at (pos 3) (pos 1) ∷ []))
    ∷ []
