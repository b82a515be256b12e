-- Where a point of the grid lies in the picture. The float steps are taken from the Rust, in its order; the rounding is arithmetic (crate rounding). Assumes nothing.
use Rattle.std.specs.Prelude.{Float, Option, Some, None, ℤ}
use Rattle.refusals.specs.Finding.{Finding, found, refused_by}
use Rattle.refusals.specs.declared.Refusal.TheVariants as refusal
use Rattle.rounding.specs.Nearest.{nearest_of}
use Rattle.floats.specs.Float64.{◌⊕◌, ◌⊗◌, ◌⊘◌, one}
use Rattle.points.specs.declared.Point.{Point}
use Rattle.geometry.specs.declared.Perspective.{Perspective}

-- an answer in document 01's terms: two coordinates, or 13
abbrev pub meaning : Option Point → Finding Point
meaning (Some p) = found p
meaning None = refused_by refusal.Unplaced

-- two rounded coordinates are a place; where an `i32` does not hold one of them there is none
unfoldable pub placed : Option ℤ → Option ℤ → Finding Point
placed (Some a) (Some b) = found (record { x = a; y = b })
placed (Some a) None = refused_by refusal.Unplaced
placed None b = refused_by refusal.Unplaced

unfoldable pub map_den : Perspective → Float → Float → Float
map_den p u v = p.c6 ⊗ u ⊕ p.c7 ⊗ v ⊕ one

unfoldable pub map_x : Perspective → Float → Float → Float
map_x p u v = (p.c0 ⊗ u ⊕ p.c1 ⊗ v ⊕ p.c2) ⊘ map_den p u v

unfoldable pub map_y : Perspective → Float → Float → Float
map_y p u v = (p.c3 ⊗ u ⊕ p.c4 ⊗ v ⊕ p.c5) ⊘ map_den p u v

-- both coordinates, each rounded to the nearest whole number
unfoldable pub mapped : Perspective → Float → Float → Finding Point
mapped p u v = placed (nearest_of (map_x p u v)) (nearest_of (map_y p u v))
