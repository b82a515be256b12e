-- An ideal timing line: ISO/IEC 18004 has the modules of line 6 between two marks dark and light by turns, dark in even columns. Definitions alone.
use Rattle.std.specs.Prelude.{ℕ, suc, ◌%◌, cond, List, [], ◌∷◌, ◌++◌, eqb, replicate}

module _ (dark light : ℕ) where
  -- the byte that the module in a column is shown by
  abbrev pub shade : ℕ → ℕ
  shade column = cond (eqb (column % 2) 0) dark light

  -- the modules from a column on, one for each number of a list: each is shown by one pixel, and so many more
  abbrev pub timing_line : ℕ → List ℕ → List ℕ
  timing_line column [] = []
  timing_line column (more ∷ rest) = replicate (suc more) (shade column) ++ timing_line (suc column) rest
