-- What is done to a region table. The operations are those of `LruCache`, whose public behaviour document 01 takes: `get` and `put` make an entry the newest. Assumes nothing.
use Rattle.std.specs.Prelude.{ℕ, ◌+◌, ◌-◌, ◌∷◌, get_or, set, replicate}
use Rattle.table.specs.Age.{without, turned_round}
use Rattle.table.specs.declared.Entry.{Entry}
use Rattle.table.specs.declared.Table.{Table}

-- how many entries a table has room for: the numbers are the bytes from 5 to 255
abbrev pub most : ℕ
most = 251

abbrev pub blank : Entry
blank = record { x = 0; y = 0; px = 0 }

-- the table with no entry
unfoldable pub empty_table : Table
empty_table = record { entries = replicate most blank; age = replicate most 0; n = 0 }

-- the entry of a number
abbrev pub entry_of : Table → ℕ → Entry
entry_of T k = get_or T.entries k blank

-- the number that was longest not looked up
abbrev pub oldest_of : Table → ℕ
oldest_of T = get_or T.age (T.n - 1) 0

-- the entry of k is made the newest; the others keep their order
abbrev pub newest : Table → ℕ → Table
newest T k = record { entries = T.entries; age = k ∷ without k T.age; n = T.n }

-- one entry more, its number n, at the end of the age order
abbrev pub appended : Table → Entry → Table
appended T e = record { entries = set T.entries T.n e; age = set T.age T.n T.n; n = T.n + 1 }

-- another entry for the number k, its age as it was
abbrev pub rewritten : Table → ℕ → Entry → Table
rewritten T k e = record { entries = set T.entries k e; age = T.age; n = T.n }

-- a new entry, and one in the place of k's: each becomes the newest
abbrev pub added : Table → Entry → Table
added T e = newest (appended T e) T.n

abbrev pub replaced : Table → ℕ → Entry → Table
replaced T k e = newest (rewritten T k e) k

-- a trial's copy: `clone` walks from the newest and puts each entry in turn, so the age order is turned round
abbrev pub copy_of : Table → Table
copy_of T = record { entries = T.entries; age = turned_round T.n T.age; n = T.n }
