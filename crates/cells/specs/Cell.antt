-- Reading one cell of a grid: document 01, "read a cell 1, 2, 16, 13". Assumes nothing.
use Rattle.std.specs.Prelude.{ℕ, Bool, true, false, not, ◌&&◌, List, [], ◌∷◌, eqb, ltb, pos, negsuc, Float, length, Result, Ok, Err}
use Rattle.refusals.specs.declared.Refusal.{Refusal}
use Rattle.std.specs.Float.{fin}
use Rattle.refusals.specs.Finding.{Finding, found, refused, refused_by}
use Rattle.refusals.specs.First.{Test, ◌when◌, first}
use Rattle.refusals.specs.declared.Refusal.TheVariants as refusal
use Rattle.picture.specs.Sides.{size_test, length_test}
use Rattle.points.specs.declared.Point.{Point}
use Rattle.floats.specs.Float64.{◌⊕◌, float}
use Rattle.geometry.specs.Map.{mapped}
use Rattle.geometry.specs.declared.Perspective.{Perspective}
use Rattle.pixels.specs.Nearest.{shown_at}
use Rattle.cells.specs.declared.Cell.{Cell}
use Rattle.cells.specs.declared.Cell.TheVariants.{Dark, Light}

-- an answer in document 01's terms: whether the cell is dark, or a refusal's number
abbrev pub meaning : Result Cell Refusal → Finding Bool
meaning (Ok Dark) = found true
meaning (Ok Light) = found false
meaning (Err r) = refused_by r

-- 16: a cell coordinate is at or above the grid size
abbrev pub index_test : ℕ → ℕ → ℕ → Test
index_test size y x = refusal.Index when not (ltb x size && ltb y size)

-- the middle of cell k along a side: k + 0.5
abbrev pub middle : ℕ → Float
middle k = float (pos k) ⊕ fin false 1 (negsuc 0)

-- dark where the picture is not white
unfoldable pub cell_at : List ℕ → ℕ → ℕ → Point → Finding Bool
cell_at pic width height p = found (not (eqb (shown_at pic width height p) 0))

-- dark or light by the place that its middle was mapped to; 13 where there is none
unfoldable pub shown : List ℕ → ℕ → ℕ → Finding Point → Finding Bool
shown pic width height (found p) = cell_at pic width height p
shown pic width height (refused n) = refused n

-- what is tested first: 1, 2, 16
abbrev pub cell_tests : ℕ → ℕ → ℕ → ℕ → ℕ → ℕ → List Test
cell_tests width height len size y x = size_test width height ∷ length_test width height len ∷ index_test size y x ∷ []

-- and then the cell is read where its middle lies, or that is 13
unfoldable pub cell_of : List ℕ → ℕ → ℕ → ℕ → Perspective → ℕ → ℕ → Finding Bool
cell_of pic width height size c y x = first (cell_tests width height (length pic) size y x) (shown pic width height (mapped c (middle x) (middle y)))
