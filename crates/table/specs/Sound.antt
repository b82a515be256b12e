-- Which tables a caller may hand over: document 01, refusal 9. Assumes nothing.
use Rattle.std.specs.Prelude.{ℕ, zero, suc, ◌≤◌, ◌<◌, ◌≡◌, List, [], ◌∷◌, Bool, true, ◌&&◌, get_or, take, eqb, ltb, leb}
use Rattle.table.specs.Age.{times}
use Rattle.table.specs.Table.{most, blank, entry_of}
use Rattle.table.specs.declared.Entry.{Entry}
use Rattle.table.specs.declared.Table.{Table}

-- l lists 0..n-1, once each
pub record OnceEach (n : ℕ) (l : List ℕ) : Type 0 where
  pub each : (k : ℕ) → k < n → times k l ≡ 1
  pub no_other : (k : ℕ) → n ≤ k → times k l ≡ 0

-- there are at most 251 entries, and the age order lists their numbers
pub record Ordered (T : Table) : Type 0 where
  pub few : T.n ≤ most
  pub order : OnceEach T.n (take T.n T.age)

-- the entry's seed is in the picture
pub record Inside (e : Entry) (width height : ℕ) : Type 0 where
  pub in_x : e.x < width
  pub in_y : e.y < height

-- a table that refusal 9 does not refuse
pub record Sound (T : Table) (width height : ℕ) : Type 0 where
  pub ordered : Ordered T
  pub seeds : (k : ℕ) → k < T.n → Inside (entry_of T k) width height

-- the test of OnceEach, for a list of n: each is below n, and none stands again
unfoldable pub once_each : ℕ → List ℕ → Bool
once_each n [] = true
once_each n (x ∷ l) = ltb x n && (eqb (times x l) 0 && once_each n l)

-- the test of the seeds
abbrev pub inside : Entry → ℕ → ℕ → Bool
inside e width height = ltb e.x width && ltb e.y height

unfoldable pub all_inside : List Entry → ℕ → ℕ → ℕ → Bool
all_inside E zero width height = true
all_inside E (suc n) width height = inside (get_or E n blank) width height && all_inside E n width height

-- the test of refusal 9: `sound_exact` says that it holds just where Sound does
unfoldable pub sound_test : Table → ℕ → ℕ → Bool
sound_test T width height = leb T.n most && (once_each T.n (take T.n T.age) && all_inside T.entries T.n width height)
