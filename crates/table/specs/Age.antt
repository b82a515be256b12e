-- An age order: numbers, the newest first. Assumes nothing.
use Rattle.std.specs.Prelude.{ℕ, suc, ◌<◌, ◌≡◌, List, [], ◌∷◌, ◌++◌, reverse, cond, length, get_or, take, drop, eqb}

-- k stands in l, at some place
abbrev pub Stands : ℕ → List ℕ → Type 0
Stands k l = (i : ℕ) × (i < length l) × (get_or l i 0 ≡ k)

-- l without the first k
unfoldable pub without : ℕ → List ℕ → List ℕ
without k [] = []
without k (x ∷ l) = cond (eqb x k) l (x ∷ without k l)

-- how often k stands in l
unfoldable pub times : ℕ → List ℕ → ℕ
times k [] = 0
times k (x ∷ l) = cond (eqb x k) (suc (times k l)) (times k l)

-- k stands at place i of l, and at no earlier one
pub record FirstAt (k i : ℕ) (l : List ℕ) : Type 0 where
  pub inside : i < length l
  pub is_k : get_or l i 0 ≡ k
  pub not_before : times k (take i l) ≡ 0

-- l without what stands at place i
abbrev pub left_out : ℕ → List ℕ → List ℕ
left_out i l = take i l ++ drop (suc i) l

-- l with its first n turned round
unfoldable pub turned_round : ℕ → List ℕ → List ℕ
turned_round n l = reverse (take n l) ++ drop n l
