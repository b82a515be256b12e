-- Where a frame's perspective takes the points of the rectangle while nothing is rounded: plane geometry, in the integers. Assumes nothing.
use Rattle.std.specs.Prelude.{◌≡◌, ℤ, pos, ◌+ℤ◌, ◌-ℤ◌, ◌*ℤ◌}
use Rattle.points.specs.declared.Point.{Point}
use Rattle.whole_corners.specs.Formulas.{Part, N0, N1, N3, N4, N6, N7, formula, determinant}
use Rattle.whole_corners.specs.Frame.{Frame, in_integers}

-- twice the area of the triangle of three points, with its turn's sign
abbrev pub area : Point → Point → Point → ℤ
area a b c = (b.x -ℤ a.x) *ℤ (c.y -ℤ a.y) -ℤ (c.x -ℤ a.x) *ℤ (b.y -ℤ a.y)

module _ (f : Frame) where
  abbrev n : Part → ℤ
  n i = in_integers f (formula i)

  -- w h d, for the determinant d
  abbrev pub scale : ℤ
  scale = pos f.w *ℤ pos f.h *ℤ in_integers f determinant

  -- c0 u + c1 v + c2, c3 u + c4 v + c5 and c6 u + c7 v + 1, each times `scale`
  abbrev pub across : ℤ → ℤ → ℤ
  across u v = n N0 *ℤ pos f.h *ℤ u +ℤ n N1 *ℤ pos f.w *ℤ v +ℤ f.p0.x *ℤ scale

  abbrev pub down : ℤ → ℤ → ℤ
  down u v = n N3 *ℤ pos f.h *ℤ u +ℤ n N4 *ℤ pos f.w *ℤ v +ℤ f.p0.y *ℤ scale

  abbrev pub depth : ℤ → ℤ → ℤ
  depth u v = n N6 *ℤ pos f.h *ℤ u +ℤ n N7 *ℤ pos f.w *ℤ v +ℤ scale

  -- (u, v) is taken to p, at across / depth and down / depth
  pub record Takes (u v : ℤ) (p : Point) : Type 0 where
    pub x : across u v ≡ p.x *ℤ depth u v
    pub y : down u v ≡ p.y *ℤ depth u v

  -- The rectangle's corners are taken to the frame's, in their order. The depth at each is w h times the triangle of the three others,
  -- so that nothing is divided by 0 there unless those are in line.
  pub record TakesCorners : Type 0 where
    pub corner0 : Takes (pos 0) (pos 0) f.p0
    pub corner1 : Takes (pos f.w) (pos 0) f.p1
    pub corner2 : Takes (pos f.w) (pos f.h) f.p2
    pub corner3 : Takes (pos 0) (pos f.h) f.p3
    pub turn : in_integers f determinant ≡ area f.p1 f.p2 f.p3
    pub depth0 : depth (pos 0) (pos 0) ≡ pos f.w *ℤ pos f.h *ℤ area f.p1 f.p2 f.p3
    pub depth1 : depth (pos f.w) (pos 0) ≡ pos f.w *ℤ pos f.h *ℤ area f.p0 f.p2 f.p3
    pub depth2 : depth (pos f.w) (pos f.h) ≡ pos f.w *ℤ pos f.h *ℤ area f.p0 f.p1 f.p3
    pub depth3 : depth (pos 0) (pos f.h) ≡ pos f.w *ℤ pos f.h *ℤ area f.p0 f.p1 f.p2
