-- What a picture shows at a point, which may lie beside it. Taken from the Rust, `get_pixel_at_point`. Assumes nothing.
use Rattle.std.specs.Prelude.{ℕ, ◌-◌, min, List, ℤ, pos, negsuc}
use Rattle.points.specs.declared.Point.{Point}
use Rattle.pieces.specs.Picture.{px}

-- the coordinate along a side that is nearest to z
unfoldable pub clamped : ℕ → ℤ → ℕ
clamped side (pos n) = min n (side - 1)
clamped side (negsuc n) = 0

-- the byte of the pixel nearest to p
unfoldable pub shown_at : List ℕ → ℕ → ℕ → Point → ℕ
shown_at pic width height p = px pic width (clamped width p.x) (clamped height p.y)
