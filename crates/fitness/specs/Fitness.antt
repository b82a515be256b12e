-- The fitness of a perspective for a grid: how far a picture shows the expected cells as they should be. Definitions alone.
use Rattle.std.specs.Prelude.{ℕ, ◌+◌, ◌≤◌, ◌<◌, List, ℤ}
use Rattle.refusals.specs.Finding.{Finding}
use Rattle.geometry.specs.declared.Perspective.{Perspective}
pub use Rattle.pieces.specs.Picture.{SameWhite}
use Rattle.fitness.specs.Expected.{Expected, expected}
use Rattle.fitness.specs.Total.{total}
use Rattle.cell_fitness.specs.Seen.{cell_of}

-- a grid has so many cells along a side: version 0, which is none, to 40
pub record GridSize (size : ℕ) : Type 0 where
  pub least : 17 ≤ size
  pub most : size ≤ 177

-- a place along a side of a grid that has r more on either hand
pub record Amid (r at : ℕ) : Type 0 where
  pub before : r ≤ at
  pub after : at + r < 177

-- how far a picture shows cells as they are expected to be: each that it does counts for it, and each other against it
unfoldable pub score_of : List ℕ → ℕ → ℕ → Perspective → List Expected → Finding ℤ
score_of pic width height c cells = total (cell_of pic width height c) cells

-- the fitness of a perspective for a grid with so many cells along a side
abbrev pub fitness_of : List ℕ → ℕ → ℕ → ℕ → Perspective → Finding ℤ
fitness_of pic width height size c = score_of pic width height c (expected size)
