-- What the calls on numbers and perspectives answer, in terms of the crates that they lead to. Assumes nothing.
use Rattle.std.specs.Prelude.{ℕ, List, [], ◌∷◌, ℤ, Float, length, Option, Some, None}
use Rattle.geometry.specs.declared.Perspective.{Perspective}
use Rattle.refusals.specs.Finding.{Finding, found, refused, refused_by}
use Rattle.refusals.specs.First.{first}
use Rattle.refusals.specs.declared.Refusal.TheVariants as refusal
use Rattle.points.specs.declared.Point.{Point}
use Rattle.rounding.specs.Nearest.{nearest_of}
use Rattle.geometry.specs.Create.{sight_of}
use Rattle.geometry.specs.Map.{mapped}
use Rattle.geometry.specs.Unmap.{unmapped}
use Rattle.geometry.specs.declared.GridPoint.{GridPoint}
use Rattle.geometry.specs.declared.Sight.{Sight}
use Rattle.geometry.specs.declared.Sight.TheVariants.{Made, Flat}
use Rattle.told.specs.Answer.{Values, these, nothing, fewer_than}
use Rattle.told.specs.Points.{point_at}
use Rattle.told_places.specs.Lent.{perspective_at}

-- a whole number, or 13
unfoldable pub whole_values : Option ℤ → Finding (Values ℤ)
whole_values (Some z) = found (these (z ∷ []))
whole_values None = refused_by refusal.Unplaced

-- x and y, or a refusal's number
unfoldable pub place_values : Finding Point → Finding (Values ℤ)
place_values (found p) = found (these (p.x ∷ p.y ∷ []))
place_values (refused n) = refused n

-- eight coefficients, or nothing
unfoldable pub sight_values : Sight → Finding (Values Float)
sight_values (Made p) = found (these (p.c0 ∷ p.c1 ∷ p.c2 ∷ p.c3 ∷ p.c4 ∷ p.c5 ∷ p.c6 ∷ p.c7 ∷ []))
sight_values Flat = found nothing

-- u and v
unfoldable pub grid_values : GridPoint → Finding (Values Float)
grid_values g = found (these (g.u ∷ g.v ∷ []))

-- the whole number nearest to x
unfoldable pub round_answer : Float → ℕ → Finding (Values ℤ)
round_answer x room = first (fewer_than 1 room ∷ []) (whole_values (nearest_of x))

-- the perspective of four corners, lent as x0 y0 .. x3 y3
unfoldable pub create_answer : List ℤ → Float → Float → ℕ → Finding (Values Float)
create_answer ns w h room =
    first (fewer_than 8 (length ns) ∷ fewer_than 8 room ∷ [])
    (sight_values (sight_of (point_at ns 0 1) (point_at ns 2 3) (point_at ns 4 5) (point_at ns 6 7) w h))

-- where (u, v) lies under a perspective
unfoldable pub map_answer : List Float → Float → Float → ℕ → Finding (Values ℤ)
map_answer cs u v room = first (fewer_than 8 (length cs) ∷ fewer_than 2 room ∷ []) (place_values (mapped (perspective_at cs 0) u v))

-- what lies at a point under a perspective
unfoldable pub unmap_answer : List Float → ℤ → ℤ → ℕ → Finding (Values Float)
unmap_answer cs x y room =
    first (fewer_than 8 (length cs) ∷ fewer_than 2 room ∷ []) (grid_values (unmapped (perspective_at cs 0) (record { x = x; y = y })))
