-- How many things there are of a kind. Definitions alone.
use Rattle.std.specs.Prelude.{ℕ, ◌≡◌, List, [], ◌∷◌, ◌⊎◌, length}

-- a stands in the list
abbrev pub Mem : {A : Type 0} → A → List A → Type 0
Mem a [] = ⊥
Mem a (b ∷ l) = (a ≡ b) ⊎ Mem a l

-- nothing stands in the list twice
abbrev pub Distinct : {A : Type 0} → List A → Type 0
Distinct [] = Unit {0}
Distinct (a ∷ l) = (Mem a l → ⊥) × Distinct l

-- the list has exactly the things of which Q holds, each once
abbrev pub Lists : {A : Type 0} → (A → Type 0) → List A → Type 0
Lists {A} Q l = Distinct l × ((a : A) → Mem a l → Q a) × ((a : A) → Q a → Mem a l)

-- Q holds of n things
pub record Number {A : Type 0} (Q : A → Type 0) (n : ℕ) : Type 0 where
  pub list : List A
  pub lists : Lists Q list
  pub count : length list ≡ n
