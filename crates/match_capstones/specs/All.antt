-- A property of every element of a list, and a relation between every two. Assumes nothing.
use Rattle.std.specs.Prelude.{List, [], ◌∷◌}

-- every element has the property P
pub data All {A : Type 0} (P : A → Type 0) : List A → Type 0 where
  all_none : All P []
  all_one : {x : A} {l : List A} → P x → All P l → All P (x ∷ l)

-- every element has the relation R to every one behind it
abbrev pub Pairwise : {A : Type 0} → (A → A → Type 0) → List A → Type 0
Pairwise R [] = Unit {0}
Pairwise R (x ∷ l) = All (R x) l × Pairwise R l

-- every element of one list has the relation R to every one of another
abbrev pub Across : {A : Type 0} → (A → A → Type 0) → List A → List A → Type 0
Across R a b = All (λ x. All (R x) b) a
