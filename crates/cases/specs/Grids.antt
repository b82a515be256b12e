-- Document 01's examples of grid sizes. Assumes nothing.
use Rattle.std.specs.Prelude.{◌≤◌, List, [], ◌∷◌, length}
use Rattle.version_db.specs.AnnexE.{version_of, printed}
use Rattle.timing.specs.Counted.{grid_size}
use Rattle.cases.specs.Case.{Case, ◌answers◌, states}

unfoldable pub grids : List Case
grids =
    -- scan 1 and 5 give 17
    (grid_size 1 answers 17)
    ∷ (grid_size 5 answers 17)
    -- 6 and 9 give 21
    ∷ (grid_size 6 answers 21)
    ∷ (grid_size 9 answers 21)
    -- 10 gives 25
    ∷ (grid_size 10 answers 25)
    -- 162 to 165 give 177
    ∷ (grid_size 162 answers 177)
    ∷ (grid_size 163 answers 177)
    ∷ (grid_size 164 answers 177)
    ∷ (grid_size 165 answers 177)
    -- 166 gives 181, no grid: the table of versions has no entry for it
    ∷ (grid_size 166 answers 181)
    ∷ states (length printed ≤ version_of 181)
    ∷ []
