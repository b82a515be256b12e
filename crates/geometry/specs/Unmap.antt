-- The point of the grid that lies at a place of the picture: the source's float steps in the source's order. Taken from the Rust. Assumes nothing.
use Rattle.std.specs.Prelude.{Float}
use Rattle.floats.specs.Float64.{◌⊕◌, ◌⊖◌, ◌⊗◌, ◌⊘◌, minus, float}
use Rattle.points.specs.declared.Point.{Point}
use Rattle.geometry.specs.declared.Perspective.{Perspective}
use Rattle.geometry.specs.declared.GridPoint.{GridPoint}

unfoldable pub unmap_den : Perspective → Float → Float → Float
unmap_den p x y =
    minus p.c0 ⊗ p.c7 ⊗ y ⊕ p.c1 ⊗ p.c6 ⊗ y ⊕ (p.c3 ⊗ p.c7 ⊖ p.c4 ⊗ p.c6) ⊗ x ⊕ p.c0 ⊗ p.c4 ⊖ p.c1 ⊗ p.c3

unfoldable pub unmap_u : Perspective → Float → Float → Float → Float
unmap_u p x y den =
    minus (p.c1 ⊗ (y ⊖ p.c5) ⊖ p.c2 ⊗ p.c7 ⊗ y ⊕ (p.c5 ⊗ p.c7 ⊖ p.c4) ⊗ x ⊕ p.c2 ⊗ p.c4) ⊘ den

unfoldable pub unmap_v : Perspective → Float → Float → Float → Float
unmap_v p x y den =
    (p.c0 ⊗ (y ⊖ p.c5) ⊖ p.c2 ⊗ p.c6 ⊗ y ⊕ (p.c5 ⊗ p.c6 ⊖ p.c3) ⊗ x ⊕ p.c2 ⊗ p.c3) ⊘ den

unfoldable pub unmapped_at : Perspective → Float → Float → GridPoint
unmapped_at p x y = record { u = unmap_u p x y (unmap_den p x y); v = unmap_v p x y (unmap_den p x y) }

-- the same, for a place's whole coordinates
unfoldable pub unmapped : Perspective → Point → GridPoint
unmapped p q = unmapped_at p (float q.x) (float q.y)
