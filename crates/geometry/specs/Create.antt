-- The perspective of four corners: the source's float steps in the source's order, each rounded once (document 01, "Points"). Taken from the Rust. Assumes nothing.
use Rattle.std.specs.Prelude.{◌||◌, cond, Float}
use Rattle.std.specs.Float.Ieee as Ieee
use Rattle.floats.specs.Float64.{◌⊕◌, ◌⊖◌, ◌⊗◌, ◌⊘◌, minus, float, epsilon}
use Rattle.points.specs.declared.Point.{Point}
use Rattle.geometry.specs.declared.Perspective.{Perspective}
use Rattle.geometry.specs.declared.Sight.{Sight}
use Rattle.geometry.specs.declared.Sight.TheVariants.{Made, Flat}
use Rattle.geometry.specs.declared.create.Corners.{Corners}

-- four points' coordinates as floats
abbrev pub corners_of : Point → Point → Point → Point → Corners
corners_of p0 p1 p2 p3 = record {
  x0 = float p0.x;
  y0 = float p0.y;
  x1 = float p1.x;
  y1 = float p1.y;
  x2 = float p2.x;
  y2 = float p2.y;
  x3 = float p3.x;
  y3 = float p3.y;
}

module _ (c : Corners) where
  abbrev x0 : Float
  x0 = c.x0

  abbrev y0 : Float
  y0 = c.y0

  abbrev x1 : Float
  x1 = c.x1

  abbrev y1 : Float
  y1 = c.y1

  abbrev x2 : Float
  x2 = c.x2

  abbrev y2 : Float
  y2 = c.y2

  abbrev x3 : Float
  x3 = c.x3

  abbrev y3 : Float
  y3 = c.y3

  -- what c0, c3 and c6 are divided by
  unfoldable pub width_den : Float → Float
  width_den w = w ⊗ (x2 ⊗ y3 ⊖ x3 ⊗ y2 ⊕ (x3 ⊖ x2) ⊗ y1 ⊕ x1 ⊗ (y2 ⊖ y3))

  -- what c1, c4 and c7 are divided by
  unfoldable pub height_den : Float → Float
  height_den h = h ⊗ (x2 ⊗ y3 ⊕ x1 ⊗ (y2 ⊖ y3) ⊖ x3 ⊗ y2 ⊕ (x3 ⊖ x2) ⊗ y1)

  -- the eight coefficients, over the two denominators
  unfoldable pub coefficients : Float → Float → Perspective
  coefficients wden hden = record {
    c0 = (x1 ⊗ (x2 ⊗ y3 ⊖ x3 ⊗ y2) ⊕ x0 ⊗ (minus x2 ⊗ y3 ⊕ x3 ⊗ y2 ⊕ (x2 ⊖ x3) ⊗ y1) ⊕ x1 ⊗ (x3 ⊖ x2) ⊗ y0) ⊘ wden;
    c1 = minus (x0 ⊗ (x2 ⊗ y3 ⊕ x1 ⊗ (y2 ⊖ y3) ⊖ x2 ⊗ y1) ⊖ x1 ⊗ x3 ⊗ y2 ⊕ x2 ⊗ x3 ⊗ y1 ⊕ (x1 ⊗ x3 ⊖ x2 ⊗ x3) ⊗ y0) ⊘ hden;
    c2 = x0;
    c3 = (y0 ⊗ (x1 ⊗ (y3 ⊖ y2) ⊖ x2 ⊗ y3 ⊕ x3 ⊗ y2) ⊕ y1 ⊗ (x2 ⊗ y3 ⊖ x3 ⊗ y2) ⊕ x0 ⊗ y1 ⊗ (y2 ⊖ y3)) ⊘ wden;
    c4 = (x0 ⊗ (y1 ⊗ y3 ⊖ y2 ⊗ y3) ⊕ x1 ⊗ y2 ⊗ y3 ⊖ x2 ⊗ y1 ⊗ y3 ⊕ y0 ⊗ (x3 ⊗ y2 ⊖ x1 ⊗ y2 ⊕ (x2 ⊖ x3) ⊗ y1)) ⊘ hden;
    c5 = y0;
    c6 = (x1 ⊗ (y3 ⊖ y2) ⊕ x0 ⊗ (y2 ⊖ y3) ⊕ (x2 ⊖ x3) ⊗ y1 ⊕ (x3 ⊖ x2) ⊗ y0) ⊘ wden;
    c7 = (minus x2 ⊗ y3 ⊕ x1 ⊗ y3 ⊕ x3 ⊗ y2 ⊕ x0 ⊗ (y1 ⊖ y2) ⊖ x3 ⊗ y1 ⊕ (x2 ⊖ x1) ⊗ y0) ⊘ hden;
  }

  -- flat where either denominator is below EPSILON
  unfoldable pub judged : Float → Float → Sight
  judged w h =
      cond (Ieee.lt (width_den w) epsilon || Ieee.lt (height_den h) epsilon) Flat
      (Made (coefficients (width_den w) (height_den h)))

-- made or flat, for a w by h rectangle
unfoldable pub sight_of : Point → Point → Point → Point → Float → Float → Sight
sight_of p0 p1 p2 p3 w h = judged (corners_of p0 p1 p2 p3) w h
