-- What a call that detects tells. Definitions alone.
use Rattle.std.specs.Prelude.{ℕ, ◌≤◌, ◌<◌, ◌≡◌, List, [], ◌∷◌, ◌⊎◌, ℤ, pos, Float, length, get_or, Result, Ok, Err}
use Rattle.refusals.specs.declared.Refusal.{Refusal}
use Rattle.refusals.specs.Numbers.{number_of}
use Rattle.table.specs.Table.{empty_table}
use Rattle.table.specs.declared.Table.{Table}
use Rattle.bounds.specs.declared.Grid.{Grid}
use Rattle.bounded.specs.Held.{no_grid}
use Rattle.detect.specs.Telling.{outcome, LaidOut}
use Rattle.detect.specs.Detect.{DetectPost}
use Rattle.detect.specs.declared.Findings.{Findings}
use Rattle.told_places.specs.Put.{put_each}
use Rattle.told_places.specs.Values.{floats_of, table_put}

-- a grid's size and its four bounds, x before y
abbrev pub places_of : Grid → List ℤ
places_of g =
    pos g.size ∷ g.bound0.x ∷ g.bound0.y ∷ g.bound1.x ∷ g.bound1.y ∷ g.bound2.x ∷ g.bound2.y ∷ g.bound3.x ∷ g.bound3.y ∷ []

-- the k-th of an array
abbrev pub grid_at : List Grid → ℕ → Grid
grid_at grids k = get_or grids k no_grid

-- all 31 of them: nine numbers each, and eight floats each
abbrev pub all_places : List Grid → List ℤ → List ℤ
all_places grids s = put_each (λ (k : ℕ). places_of (grid_at grids k)) 9 31 0 s

abbrev pub all_floats : List Grid → List Float → List Float
all_floats grids s = put_each (λ (k : ℕ). floats_of (grid_at grids k).c) 8 31 0 s

-- the numbers after the call: the table that is left, and how many stones and grids there are; a refusal leaves them as they were
unfoldable pub counts_after : Result Findings Refusal → Table → List ℕ → List ℕ
counts_after (Ok f) T s = table_put T f.stones f.n s
counts_after (Err why) T s = s

-- the grids' sizes and bounds after it
unfoldable pub places_after : Result Findings Refusal → List ℤ → List ℤ
places_after (Ok f) s = all_places f.grids s
places_after (Err why) s = s

-- and their coefficients
unfoldable pub floats_after : Result Findings Refusal → List Float → List Float
floats_after (Ok f) s = all_floats f.grids s
floats_after (Err why) s = s

-- what it returns: 0, or the number of a refusal
unfoldable pub status_of : Result Findings Refusal → ℕ
status_of (Ok f) = 0
status_of (Err why) = number_of why

-- the call leaves the picture pic' and returns a number; `counts`, `places` and `floats` were lent to hold what it tells
pub data Tells (pic : List ℕ) (width height lent room : ℕ) (pic' counts counts' : List ℕ) (places places' : List ℤ) (floats floats' : List Float) (number : ℕ) : Type 0 where
  -- with too few places nothing is detected
  short : (length counts < 1007) ⊎ (length places < 279) ⊎ (length floats < 248) → pic' ≡ pic → counts' ≡ counts → places' ≡ places → floats' ≡ floats → number ≡ 3 → Tells pic width height lent room pic' counts counts' places places' floats floats' number
  -- else what detect finds is told; it starts from the empty table, whatever stands in the places of one
  told : 1007 ≤ length counts → 279 ≤ length places → 248 ≤ length floats → (f : Result Findings Refusal) (left : Table) → DetectPost pic width height lent room empty_table (outcome f) pic' left → LaidOut f → counts' ≡ counts_after f left counts → places' ≡ places_after f places → floats' ≡ floats_after f floats → number ≡ status_of f → Tells pic width height lent room pic' counts counts' places places' floats floats' number
