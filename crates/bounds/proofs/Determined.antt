-- Two answers that mean the same are the same, and so are two that the contract of `bounds_of` allows. Assumes nothing.
use Rattle.std.specs.Prelude.{Option, Some, None}
use Rattle.bounds.specs.declared.Grid.{Grid}
use mathlib.Core.Path.{◌≡◌, refl, sym, ◌∙◌}
use Rattle.bounds.specs.Bounds.{meaning, bounded_of}
use Rattle.grids.specs.declared.SkewedGridLocation.{SkewedGridLocation}

pub meaning_only : (a b : Option Grid) → meaning a ≡ meaning b → a ≡ b
meaning_only (Some g) (Some h) e = cc
meaning_only (Some g) None e = cc
meaning_only None (Some h) e = cc
meaning_only None None e = refl

pub bounded_only : (a b : Option Grid) (g : SkewedGridLocation) → meaning a ≡ bounded_of g → meaning b ≡ bounded_of g → a ≡ b
bounded_only a b g p q = meaning_only a b (p ∙ sym q)
