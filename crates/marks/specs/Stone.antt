-- A mark's stone: document 01, "Marks"; the order of the corners is taken from the Rust, and the refusals come as 13, 12, 11. Definitions alone.
use Rattle.std.specs.Prelude.{ℕ, ◌≤◌, ◌≡◌, List, [], ◌∷◌, leb, length, Option, Some, None, Result, Ok, Err}
use Rattle.refusals.specs.declared.Refusal.{Refusal}
use Rattle.refusals.specs.Limits.{most_stones}
use Rattle.refusals.specs.Finding.{Finding, found, refused, refused_by}
use Rattle.refusals.specs.First.{Test, ◌when◌, first}
use Rattle.refusals.specs.declared.Refusal.TheVariants as refusal
use Rattle.points.specs.declared.Point.{Point}
use Rattle.geometry.specs.Create.{sight_of}
use Rattle.geometry.specs.Map.{mapped}
use Rattle.geometry.specs.declared.Perspective.{Perspective}
use Rattle.geometry.specs.declared.Sight.{Sight}
use Rattle.geometry.specs.declared.Sight.TheVariants.{Made, Flat}
use Rattle.stated.specs.Stated.{far_test}
use Rattle.picture.specs.Sides.{Seeded}
use Rattle.pieces.specs.Picture.{px}
use Rattle.pieces.specs.Paint.{Paints}
use Rattle.fill.specs.Order.{rows_met}
use Rattle.fill.specs.Fold.{folded}
use Rattle.corners.specs.Rows.{point_at, by_ends}
use Rattle.corners.specs.Finders.{first_corner_from, first_corner_sees, all_corners_from, all_corners_see}
use Rattle.corners.specs.declared.all_corners.AllCornerFinder.{AllCornerFinder}
use Rattle.capstones.specs.Modules.{seven, middle}
use Rattle.capstones.specs.declared.CapStone.{CapStone}

-- what a cut comes to, in document 01's terms: the stones that it adds, one or none, or a refusal's number
abbrev pub meaning : Result (Option CapStone) Refusal → Finding (List CapStone)
meaning (Ok (Some s)) = found (s ∷ [])
meaning (Ok None) = found []
meaning (Err why) = refused_by why

abbrev pub stone : Point → Point → Point → Point → Point → Perspective → CapStone
stone p0 p1 p2 p3 center c = record { corner0 = p0; corner1 = p1; corner2 = p2; corner3 = p3; center = center; c = c }

-- 11: 64 stones were found before it
abbrev pub stones_test : ℕ → Test
stones_test n = refusal.Stones when leb most_stones n

-- what a stone with this centre, after n others, is refused for: 12, 11
abbrev pub stone_tests : Point → ℕ → List Test
stone_tests center n = far_test center ∷ stones_test n ∷ []

-- 13 where the centre lies at no place; then 12, 11; then the stone
unfoldable pub placed_stone : Point → Point → Point → Point → Perspective → ℕ → Finding Point → Finding (List CapStone)
placed_stone p0 p1 p2 p3 c n (found center) = first (stone_tests center n) (found (stone p0 p1 p2 p3 center c ∷ []))
placed_stone p0 p1 p2 p3 c n (refused why) = refused why

unfoldable pub centred_stone : Point → Point → Point → Point → Perspective → ℕ → Finding (List CapStone)
centred_stone p0 p1 p2 p3 c n = placed_stone p0 p1 p2 p3 c n (mapped c middle middle)

-- "A flat perspective drops the mark"
unfoldable pub seen_stone : Point → Point → Point → Point → ℕ → Sight → Finding (List CapStone)
seen_stone p0 p1 p2 p3 n (Made c) = centred_stone p0 p1 p2 p3 c n
seen_stone p0 p1 p2 p3 n Flat = found []

-- the stone of the four corners found, in the order of the search: ahead, right, behind, left
unfoldable pub stone_of : AllCornerFinder → ℕ → Finding (List CapStone)
stone_of f n =
    let p0 = f.ahead.place in
    let p1 = f.right.place in
    let p2 = f.behind.place in
    let p3 = f.left.place in
    seen_stone p0 p1 p2 p3 n (sight_of p0 p1 p2 p3 seven seven)

-- the ring at (x, y) can be filled: it is neither white nor claimed
pub record Ringed (p : List ℕ) (w h lent x y : ℕ) : Type 0 where
  pub seeded : Seeded w h (length p) lent x y
  pub dark : px p w x y ≡ 0 → ⊥
  pub unclaimed : 2 ≤ px p w x y → px p w x y ≤ 4 → ⊥

-- the first corner, from the rows that a fill of the ring with 4 meets
unfoldable pub first_corner : List ℕ → ℕ → ℕ → ℕ → ℕ → Point
first_corner p w h x y = (folded (by_ends first_corner_sees) (first_corner_from (point_at x y)) (rows_met p w h x y 4)).best.place

-- "The ring is filled with 4, then 2": the second fill finds the four corners
pub record Rings (p : List ℕ) (w h x y : ℕ) (corners : AllCornerFinder) (q : List ℕ) : Type 0 where
  pub between : List ℕ
  pub four : Paints p w h x y 4 between
  pub two : Paints between w h x y 2 q
  pub are : corners ≡ folded (by_ends all_corners_see) (all_corners_from (point_at x y) (first_corner p w h x y)) (rows_met between w h x y 2)

-- a ring's stone, or why there is none; whichever it is, the ring stays 2
pub record Creates (p : List ℕ) (w h x y n : ℕ) (f : Finding (List CapStone)) (q : List ℕ) : Type 0 where
  pub corners : AllCornerFinder
  pub rings : Rings p w h x y corners q
  pub is : f ≡ stone_of corners n
