-- Where points of a cell lie in the picture, before their coordinates are rounded, and what the picture shows there. Definitions alone.
use Rattle.std.specs.Prelude.{ℕ, List, ℤ, Float}
use Rattle.refusals.specs.Finding.{Finding}
use Rattle.rounding.specs.Nearest.{nearest_of}
use Rattle.floats.specs.Float64.{◌⊕◌}
use Rattle.geometry.specs.Map.{map_x, map_y}
use Rattle.geometry.specs.declared.Perspective.{Perspective}
use Rattle.cell_fitness.specs.declared.cell.Landing.{Landing}
use Rattle.cell_fitness.specs.declared.cell.Landings.{Landings}
use Rattle.cell_fitness.specs.Score.{◌⊞◌}
use Rattle.cell_fitness.specs.Seen.{ratio}
use Rattle.cell_fitness.specs.Along.{along, seen_at}

-- where the grid's point (u, v) lies
unfoldable pub landed : Perspective → Float → Float → Landing
landed c u v = record { right = map_x c u v; below = map_y c u v }

-- where three points at the height v lie, in a cell that starts at x
unfoldable pub landed_line : Perspective → Float → Float → Landings
landed_line c x v = record {
  first = landed c (x ⊕ ratio 3 10) v;
  second = landed c (x ⊕ ratio 5 10) v;
  third = landed c (x ⊕ ratio 7 10) v;
}

module _ (pic : List ℕ) (width height : ℕ) where
  -- what the picture shows where a point lies
  unfoldable pub point_at : Landing → Finding ℤ
  point_at l = seen_at pic width height (along (nearest_of l.right)) (along (nearest_of l.below))

  -- what it shows where three points lie
  unfoldable pub line_at : Landings → Finding ℤ
  line_at l = point_at l.first ⊞ point_at l.second ⊞ point_at l.third
