-- What stands in the places of a lent slice: a perspective's coefficients, a region table; and a verdict's number. Definitions alone.
use Rattle.std.specs.Prelude.{ℕ, List, [], ◌∷◌, Float, get_or, Result, Ok, Err}
use Rattle.refusals.specs.declared.Refusal.{Refusal}
use Rattle.refusals.specs.Numbers.{number_of}
use Rattle.geometry.specs.declared.Perspective.{Perspective}
use Rattle.table.specs.Table.{entry_of}
use Rattle.table.specs.declared.Entry.{Entry}
use Rattle.table.specs.declared.Table.{Table}
use Rattle.told_places.specs.Put.{put_at, put_each}

-- the eight coefficients of a perspective
abbrev pub floats_of : Perspective → List Float
floats_of c = c.c0 ∷ c.c1 ∷ c.c2 ∷ c.c3 ∷ c.c4 ∷ c.c5 ∷ c.c6 ∷ c.c7 ∷ []

-- a place of the table: a number, in the order of their ages, and an entry
abbrev pub entry_numbers : ℕ → Entry → List ℕ
entry_numbers age e = age ∷ e.x ∷ e.y ∷ e.px ∷ []

-- the k-th of them
abbrev pub table_numbers : Table → ℕ → List ℕ
table_numbers T k = entry_numbers (get_or T.age k 0) (entry_of T k)

-- all 251 of them
abbrev pub all_entries : Table → List ℕ → List ℕ
all_entries T s = put_each (table_numbers T) 4 251 0 s

-- a table: its places, how many entries it has, and a number behind that
abbrev pub counted_put : Table → ℕ → List ℕ → List ℕ
counted_put T count s = put_at (all_entries T s) 1004 (T.n ∷ count ∷ [])

-- the same with two numbers behind it
abbrev pub table_put : Table → ℕ → ℕ → List ℕ → List ℕ
table_put T first second s = put_at (all_entries T s) 1004 (T.n ∷ first ∷ second ∷ [])

-- what a call returns: 0, or the number of a refusal
unfoldable pub status_of : Result (Unit {0}) Refusal → ℕ
status_of (Ok u) = 0
status_of (Err why) = number_of why
