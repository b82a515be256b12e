-- A region table and a perspective as a caller lends them, number by number. Definitions alone.
use Rattle.std.specs.Prelude.{ℕ, zero, suc, ◌+◌, ◌*◌, cond, List, [], ◌∷◌, ◌++◌, Float, ltb, get_or}
use Rattle.std.specs.Float.{nan}
use Rattle.geometry.specs.declared.Perspective.{Perspective}
use Rattle.table.specs.declared.Entry.{Entry}
use Rattle.table.specs.declared.Table.{Table}

-- a number, or the most that its place in a table holds: no sound table has a number or a seed as high
unfoldable pub at_most : ℕ → ℕ → ℕ
at_most most v = cond (ltb most v) most v

-- the number that is the k-th newest, of places with four numbers each
unfoldable pub age_at : List ℕ → ℕ → ℕ
age_at counts k = at_most 255 (get_or counts (k * 4) 0)

-- the entry of number k: column, line, pixels
unfoldable pub entry_at : List ℕ → ℕ → Entry
entry_at counts k = record {
  x = at_most 65535 (get_or counts (k * 4 + 1) 0);
  y = at_most 65535 (get_or counts (k * 4 + 2) 0);
  px = at_most 4294967295 (get_or counts (k * 4 + 3) 0);
}

-- the first n of what f lists
unfoldable pub first_of : {A : Type 0} → (ℕ → A) → ℕ → List A
first_of f zero = []
first_of f (suc n) = first_of f n ++ (f n ∷ [])

-- the table: 251 places, and behind them how many entries there are
unfoldable pub table_of : List ℕ → Table
table_of counts = record { entries = first_of (entry_at counts) 251; age = first_of (age_at counts) 251; n = get_or counts 1004 0 }

-- the perspective whose eight coefficients stand from a place on
unfoldable pub perspective_at : List Float → ℕ → Perspective
perspective_at cs at = record {
  c0 = get_or cs at nan;
  c1 = get_or cs (at + 1) nan;
  c2 = get_or cs (at + 2) nan;
  c3 = get_or cs (at + 3) nan;
  c4 = get_or cs (at + 4) nan;
  c5 = get_or cs (at + 5) nan;
  c6 = get_or cs (at + 6) nan;
  c7 = get_or cs (at + 7) nan;
}
