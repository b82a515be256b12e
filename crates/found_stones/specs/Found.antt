-- A stone as the search for marks finds it. Definitions alone.
use Rattle.std.specs.Prelude.{ℕ, ◌<◌, ◌≡◌}
use Rattle.points.specs.Range.{Near}
use Rattle.points.specs.declared.Point.{Point}
use Rattle.corners.specs.Rows.{point_at}
use Rattle.capstones.specs.declared.CapStone.{CapStone}

-- p is a pixel of a picture with these sides
pub record PixelIn (w h : ℕ) (p : Point) : Type 0 where
  pub column : ℕ
  pub line : ℕ
  pub is : p ≡ point_at column line
  pub in_x : column < w
  pub in_y : line < h

-- its four corners are pixels of the picture, and its centre lies within 10,000: what document 01 lets a caller hand to fit (refusal 12)
pub record FoundIn (w h : ℕ) (s : CapStone) : Type 0 where
  pub corner0 : PixelIn w h s.corner0
  pub corner1 : PixelIn w h s.corner1
  pub corner2 : PixelIn w h s.corner2
  pub corner3 : PixelIn w h s.corner3
  pub near : Near s.center
