-- The ends of the rows that a fill meets, as points. Assumes nothing.
use Rattle.std.specs.Prelude.{ℕ, ◌<◌, ◌≤◌, List, [], ◌∷◌, ◌++◌, pos}
use Rattle.refusals.specs.Limits.{longest_side}
use Rattle.points.specs.declared.Point.{Point}
use Rattle.pieces.specs.declared.Row.{Row}

-- no side is longer than a picture's may be
pub record Sides (w h : ℕ) : Type 0 where
  pub wide : w ≤ longest_side
  pub tall : h ≤ longest_side

-- the row is one of some picture
pub record Drawn (row : Row) : Type 0 where
  pub left_low : row.left < longest_side
  pub right_low : row.right < longest_side
  pub y_low : row.y < longest_side

-- the point at column x of line y
abbrev pub point_at : ℕ → ℕ → Point
point_at x y = record { x = pos x; y = pos y }

abbrev pub left_end : Row → Point
left_end row = point_at row.left row.y

abbrev pub right_end : Row → Point
right_end row = point_at row.right row.y

-- a row is met: its left end is seen, then its right end
unfoldable pub by_ends : {A : Type 0} → (A → Point → A) → A → Row → A
by_ends see a row = see (see a (left_end row)) (right_end row)

-- points are seen, one after the other
unfoldable pub seen_in : {A : Type 0} → (A → Point → A) → A → List Point → A
seen_in see a [] = a
seen_in see a (p ∷ ps) = seen_in see (see a p) ps

-- the ends of rows, in the order in which they are seen; of the rows the latest stands first
unfoldable pub ends : List Row → List Point
ends [] = []
ends (row ∷ rows) = ends rows ++ (left_end row ∷ right_end row ∷ [])
