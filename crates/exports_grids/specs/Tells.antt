-- What a call that fits a group of stones tells. Definitions alone.
use Rattle.std.specs.Prelude.{ℕ, ◌≤◌, ◌<◌, ◌≡◌, List, ◌⊎◌, ℤ, Float, length, Option, Some, None, Result, Ok, Err}
use Rattle.refusals.specs.declared.Refusal.{Refusal}
use Rattle.grids.specs.declared.SkewedGridLocation.{SkewedGridLocation}
use Rattle.refusals.specs.Numbers.{number_of}
use Rattle.table.specs.declared.Table.{Table}
use Rattle.grids.specs.Grid.{meaning}
use Rattle.fit.specs.Fit.{FitPost}
use Rattle.told_places.specs.Lent.{table_of}
use Rattle.told_places.specs.Put.{put_at}
use Rattle.told_places.specs.Values.{floats_of, counted_put}
use Rattle.exports_grids.specs.Lent.{group_of}

-- what the call returns: 0 with a grid, 255 with none, else a refusal's number
unfoldable pub status_of : Result (Option SkewedGridLocation) Refusal → ℕ
status_of (Ok (Some g)) = 0
status_of (Ok None) = 255
status_of (Err why) = number_of why

-- the numbers after it: the table that fitting left, and the grid's size or 0; a refusal leaves them as they were
unfoldable pub counts_after : Result (Option SkewedGridLocation) Refusal → Table → List ℕ → List ℕ
counts_after (Ok (Some g)) T s = counted_put T g.size s
counts_after (Ok None) T s = counted_put T 0 s
counts_after (Err why) T s = s

-- the floats after it: a grid's coefficients, else as they were
unfoldable pub floats_after : Result (Option SkewedGridLocation) Refusal → List Float → List Float
floats_after (Ok (Some g)) s = put_at s 0 (floats_of g.c)
floats_after (Ok None) s = s
floats_after (Err why) s = s

-- the call leaves the picture pic' and returns a number; `counts` and `floats` were lent to hold what it tells
pub data Tells (pic : List ℕ) (width height lent room : ℕ) (places : List ℤ) (pic' counts counts' : List ℕ) (floats floats' : List Float) (number : ℕ) : Type 0 where
  -- with too few places nothing is fitted
  short : (length counts < 1006) ⊎ (length places < 30) ⊎ (length floats < 8) → pic' ≡ pic → counts' ≡ counts → floats' ≡ floats → number ≡ 3 → Tells pic width height lent room places pic' counts counts' floats floats' number
  -- else what the group comes to is told
  told : 1006 ≤ length counts → 30 ≤ length places → 8 ≤ length floats → (f : Result (Option SkewedGridLocation) Refusal) (left : Table) → FitPost pic width height lent room (table_of counts) (group_of places) (meaning f) pic' left → counts' ≡ counts_after f left counts → floats' ≡ floats_after f floats → number ≡ status_of f → Tells pic width height lent room places pic' counts counts' floats floats' number
