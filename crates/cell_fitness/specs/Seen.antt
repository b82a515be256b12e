-- How dark a picture shows a cell of a grid, through a perspective. Taken from the Rust, `fitness_cell`. Definitions alone.
use Rattle.std.specs.Prelude.{ℕ, ◌&&◌, cond, List, eqb, ltb, ℤ, pos, negsuc, Float}
use Rattle.refusals.specs.Finding.{Finding, found, refused}
use Rattle.points.specs.declared.Point.{Point}
use Rattle.floats.specs.Float64.{◌⊕◌, ◌⊘◌, float}
use Rattle.geometry.specs.Map.{mapped}
use Rattle.geometry.specs.declared.Perspective.{Perspective}
use Rattle.pieces.specs.Picture.{px}
use Rattle.cell_fitness.specs.Score.{◌⊞◌}

-- a byte counts against darkness where it is white, and for it in any other colour
abbrev pub darkness : ℕ → ℤ
darkness b = cond (eqb b 0) (negsuc 0) (pos 1)

-- the pixel in column x of line y; beside the picture there is none, and that counts 0
unfoldable pub dark_at : List ℕ → ℕ → ℕ → ℤ → ℤ → ℤ
dark_at pic width height (pos x) (pos y) = cond (ltb x width && ltb y height) (darkness (px pic width x y)) (pos 0)
dark_at pic width height (pos x) (negsuc y) = pos 0
dark_at pic width height (negsuc x) y = pos 0

-- the pixel that a point of the grid was mapped to; 13 where there is none
unfoldable pub dark_in : List ℕ → ℕ → ℕ → Finding Point → Finding ℤ
dark_in pic width height (found p) = found (dark_at pic width height p.x p.y)
dark_in pic width height (refused n) = refused n

-- the float nearest to a fraction, which is what a decimal in the source stands for
abbrev pub ratio : ℕ → ℕ → Float
ratio n d = float (pos n) ⊘ float (pos d)

module _ (pic : List ℕ) (width height : ℕ) (c : Perspective) where
  -- the grid's point (u, v)
  unfoldable pub point_of : Float → Float → Finding ℤ
  point_of u v = dark_in pic width height (mapped c u v)

  -- three points at the height v, in a cell that starts at x: 0.3, 0.5 and 0.7 further on
  unfoldable pub line_of : Float → Float → Finding ℤ
  line_of x v = point_of (x ⊕ ratio 3 10) v ⊞ point_of (x ⊕ ratio 5 10) v ⊞ point_of (x ⊕ ratio 7 10) v

  -- the cell in column x of line y: nine points, on lines that are 0.3, 0.5 and 0.7 further down
  unfoldable pub cell_of : ℕ → ℕ → Finding ℤ
  cell_of x y =
      line_of (float (pos x)) (float (pos y) ⊕ ratio 3 10)
      ⊞ line_of (float (pos x)) (float (pos y) ⊕ ratio 5 10)
      ⊞ line_of (float (pos x)) (float (pos y) ⊕ ratio 7 10)
