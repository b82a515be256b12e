-- The stages of detect: document 01, "Empties the table, finds marks, tries groups on a copy .., fits in the final pass, bounds after it"; that they follow each other so is taken from the Rust, `detect_grids`. Definitions alone.
use Rattle.std.specs.Prelude.{ℕ, ◌≡◌, List, [], length}
use Rattle.refusals.specs.Finding.{Finding, found, refused}
use Rattle.pieces.specs.Count.{Mem}
use Rattle.table.specs.Table.{empty_table}
use Rattle.table.specs.declared.Table.{Table}
use Rattle.capstones.specs.declared.CapStone.{CapStone}
use Rattle.marks.specs.Search.{all_cuts, Searches}
use Rattle.grids.specs.declared.SkewedGridLocation.{SkewedGridLocation}
use Rattle.groupings.specs.Held.{Low}
use Rattle.groupings.specs.Groups.{Grouped}
use Rattle.groupings.specs.declared.Trio.{Trio}
use Rattle.locations.specs.Pass.{FitsAll}
use Rattle.detect.specs.Telling.{Telling, tells_located}

-- each group names stones of the first n
abbrev pub Named : ℕ → List Trio → Type 0
Named n groups = (t : Trio) → Mem t groups → Low n t

-- what the groups of stones come to, on the picture p with the table T: a refusal stands; else all are fitted, and what is located gets its bounds
pub data Finishes (w h : ℕ) (stones : List CapStone) (p : List ℕ) (T : Table) (groups : Finding (List Trio)) (f : Finding Telling) (q : List ℕ) (U : Table) : Type 0 where
  ungrouped : (n : ℕ) → groups ≡ refused n → f ≡ refused n → q ≡ p → U ≡ T → Finishes w h stones p T groups f q U
  fitted : (l : List Trio) → groups ≡ found l → (located : Finding (List SkewedGridLocation)) → FitsAll w h stones l p T [] located q U → f ≡ tells_located (length stones) located → Finishes w h stones p T groups f q U

-- what stones come to: a refusal stands; else they are grouped
pub data Gathers (w h : ℕ) (p : List ℕ) (T : Table) (stones : Finding (List CapStone)) (f : Finding Telling) (q : List ℕ) (U : Table) : Type 0 where
  unmarked : (n : ℕ) → stones ≡ refused n → f ≡ refused n → q ≡ p → U ≡ T → Gathers w h p T stones f q U
  grouped : (l : List CapStone) → stones ≡ found l → (groups : Finding (List Trio)) → Grouped p w h T l groups → Finishes w h l p T groups f q U → Gathers w h p T stones f q U

-- what a bitmap comes to: its marks are searched from the empty table, and what they come to is told
pub record Finds (p : List ℕ) (w h : ℕ) (f : Finding Telling) (q : List ℕ) (U : Table) : Type 0 where
  pub stones : Finding (List CapStone)
  pub marked : List ℕ
  pub among : Table
  pub searches : Searches w h (all_cuts p w h) p empty_table [] stones marked among
  pub gathers : Gathers w h marked among stones f q U
