-- How a list that is found stands in an array beside its count: nothing is left to chance, so every place past the count, and every place after a refusal, holds one blank. Definitions alone.
use Rattle.std.specs.Prelude.{ℕ, ◌-◌, ◌≤◌, ◌≡◌, Bool, true, false, List, ◌++◌, length, take, replicate, Result, Ok, Err}
use Rattle.refusals.specs.declared.Refusal.{Refusal}
use Rattle.refusals.specs.Finding.{Finding, found, refused, refused_by}

-- what a verdict makes of a list: it is found, or there is a refusal and nothing else
unfoldable pub told : {A : Type 0} → Result (Unit {0}) Refusal → List A → Finding (List A)
told (Ok u) l = found l
told (Err why) l = refused_by why

-- whether nothing is refused
unfoldable pub goes : Result (Unit {0}) Refusal → Bool
goes (Ok u) = true
goes (Err why) = false

-- a list, and what one step more adds to it
unfoldable pub added : {A : Type 0} → List A → Finding (List A) → Finding (List A)
added l (found new) = found (l ++ new)
added l (refused n) = refused n

-- how many a finding has
unfoldable pub count_in : {A : Type 0} → Finding (List A) → ℕ
count_in (found l) = length l
count_in (refused n) = 0

module _ {A : Type 0} (most : ℕ) (blank : A) where
  -- a finding in an array of so many places: the list and blanks past it, or blanks alone
  unfoldable pub laid_out : Finding (List A) → List A
  laid_out (found l) = l ++ replicate (most - length l) blank
  laid_out (refused n) = replicate most blank

  -- what stands in an array, with its count and its verdict
  abbrev pub outcome : Result (Unit {0}) Refusal → ℕ → List A → Finding (List A)
  outcome v n array = told v (take n array)

  -- an array and a count are laid out so
  pub record Laid (v : Result (Unit {0}) Refusal) (n : ℕ) (array : List A) : Type 0 where
    pub few : n ≤ most
    pub count : n ≡ count_in (outcome v n array)
    pub is : array ≡ laid_out (outcome v n array)

  -- and nothing is refused so far
  pub record Holds (v : Result (Unit {0}) Refusal) (n : ℕ) (array : List A) : Type 0 where
    pub laid : Laid v n array
    pub going : outcome v n array ≡ found (take n array)
