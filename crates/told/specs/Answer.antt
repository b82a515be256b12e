-- What a call from another language gets: a number, and values in a slice that it lends. Assumes nothing.
use Rattle.std.specs.Prelude.{ℕ, ◌≡◌, List, ◌++◌, ltb, length, drop}
use Rattle.refusals.specs.Finding.{Finding, found, refused}
use Rattle.refusals.specs.First.{Test, ◌when◌}
use Rattle.refusals.specs.declared.Refusal.TheVariants.{Room}

-- what a call finds: values for the lent slice, or nothing, which is no refusal
pub data Values (A : Type 0) : Type 0 where
  these : List A → Values A
  nothing : Values A

-- the number that the call returns: 0 with values, 255 with nothing, else the refusal's own
unfoldable pub status_of : {A : Type 0} → Finding (Values A) → ℕ
status_of (found (these vs)) = 0
status_of (found nothing) = 255
status_of (refused n) = n

-- what the lent slice holds after the call: the values in its first places, or all as it was
unfoldable pub held_after : {A : Type 0} → Finding (Values A) → List A → List A
held_after (found (these vs)) s = vs ++ drop (length vs) s
held_after (found nothing) s = s
held_after (refused n) s = s

-- a call that lends a slice: the number and the slice after it are those of its answer
pub record Told {A : Type 0} (answer : Finding (Values A)) (before : List A) (number : ℕ) (after : List A) : Type 0 where
  pub number_is : number ≡ status_of answer
  pub after_is : after ≡ held_after answer before

-- 3: a lent slice has fewer places than are needed
abbrev pub fewer_than : ℕ → ℕ → Test
fewer_than needed places = Room when ltb places needed
