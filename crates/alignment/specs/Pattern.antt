-- The alignment pattern once its place is known: its piece is painted 3, the colour of alignment (document 01, "Colours"), and its leftmost point is taken. Taken from the Rust (`from_group`). Definitions alone.
use Rattle.std.specs.Prelude.{ℕ, ◌≡◌, List, length, Some}
use Rattle.points.specs.declared.Point.{Point}
use Rattle.picture.specs.Sides.{Roomy}
use Rattle.pieces.specs.Picture.{px}
use Rattle.pieces.specs.Paint.{Paints}
use Rattle.fill.specs.Order.{rows_met}
use Rattle.fill.specs.Fold.{folded}
use Rattle.corners.specs.Rows.{by_ends}
use Rattle.corners.specs.Scores.{Direction}
use Rattle.corners.specs.Finders.{left_most_from, left_most_sees}
use Rattle.alignment.specs.Visit.{place_of}

-- the place is a pixel of the picture that does not show 3, and hd leads from one stated point to another
pub record Claimable (p : List ℕ) (w h lent : ℕ) (at hd : Point) : Type 0 where
  pub roomy : Roomy w h (length p) lent
  pub x : ℕ
  pub y : ℕ
  pub place : place_of w h at ≡ Some (x, y)
  pub other : px p w x y ≡ 3 → ⊥
  pub line : Direction hd

-- the piece at the place is painted 3, and r is its point farthest to the left of hd: of the place and the ends of the rows, in the order met, the first of those
pub record Aligns (p : List ℕ) (w h : ℕ) (at hd r : Point) (q : List ℕ) : Type 0 where
  pub x : ℕ
  pub y : ℕ
  pub place : place_of w h at ≡ Some (x, y)
  pub paint : Paints p w h x y 3 q
  pub is : r ≡ (folded (by_ends left_most_sees) (left_most_from hd at) (rows_met p w h x y 3)).best.place
