-- What a call that reads a cell tells. Definitions alone.
use Rattle.std.specs.Prelude.{ℕ, Bool, true, false, cond, List, ltb, Float, length}
use Rattle.refusals.specs.Finding.{Finding, found, refused}
use Rattle.cells.specs.Cell.{cell_of}
use Rattle.told_places.specs.Lent.{perspective_at}

-- the number of a cell: 254 where it is dark, 255 where it is light, else a refusal's own
unfoldable pub cell_number : Finding Bool → ℕ
cell_number (found true) = 254
cell_number (found false) = 255
cell_number (refused n) = n

-- what the call returns: 3 where there are fewer than eight coefficients, else the cell's number
unfoldable pub cell_told : List ℕ → ℕ → ℕ → ℕ → List Float → ℕ → ℕ → ℕ
cell_told pic width height size cs y x = cond (ltb (length cs) 8) 3 (cell_number (cell_of pic width height size (perspective_at cs 0) y x))
