-- The scores of expected cells, and their sum. Definitions alone.
use Rattle.std.specs.Prelude.{ℕ, List, [], ◌∷◌, ℤ, pos}
use Rattle.refusals.specs.Finding.{Finding, found}
use Rattle.cell_fitness.specs.Score.{◌⊞◌, opposite}
use Rattle.fitness.specs.Expected.{Shade, dark, light, Expected}

-- what a cell's darkness counts, where it is expected dark and where it is expected light
abbrev pub weighed : Shade → Finding ℤ → Finding ℤ
weighed dark score = score
weighed light score = opposite score

-- the scores of all cells of a list, by how dark each is seen
unfoldable pub total : (ℕ → ℕ → Finding ℤ) → List Expected → Finding ℤ
total seen [] = found (pos 0)
total seen (e ∷ es) = weighed e.shade (seen e.col e.line) ⊞ total seen es
