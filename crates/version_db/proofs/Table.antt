-- A rule that holds at each entry of a table, by one test that is computed over the whole table. Assumes nothing.
use Prim.Native.Nat.{ℕ, zero, suc, ◌+◌, ◌<◌}
use native.Mathlib.Nat.{add-zero, zero-add, add-suc, suc-add, le_of_suc-le-suc, not-suc-le-zero}
use native.Mathlib.Omega.{arith}
use mathlib.Core.Path.{◌∙◌, subst, sym}
use mathlib.Core.Bool.{Bool, true, ◌&&◌}
use mathlib.Core.List.{List, [], ◌∷◌}
use lib.Dec.{T, eqb, eqb→eq}
use lib.Ieee.Fits.{and_l, and_r}
use lib.ListN.{length, get_or}

module _ {A : Type 0} (test : ℕ → A → Bool) (default : A) where
  -- the test passes at each entry and its place, places counted from i
  abbrev pub every : ℕ → List A → Bool
  every i [] = true
  every i (x ∷ xs) = test i x && every (suc i) xs

  from : (xs : List A) (i : ℕ) → T (every i xs) → (k : ℕ) → k < length xs → T (test (i + k) (get_or xs k default))
  from [] i t k h = absurd (not-suc-le-zero h)
  from (x ∷ xs) i t zero h = subst (λ (m : ℕ). T (test m x)) (sym (add-zero i)) (and_l (test i x) (every (suc i) xs) t)
  from (x ∷ xs) i t (suc k) h =
      subst (λ (m : ℕ). T (test m (get_or xs k default))) (suc-add i k ∙ sym (add-suc i k))
      (from xs (suc i) (and_r (test i x) (every (suc i) xs) t) k (le_of_suc-le-suc h))

  pub at_each : (xs : List A) → T (every 0 xs) → (k : ℕ) → k < length xs → T (test k (get_or xs k default))
  at_each xs t k h = subst (λ (m : ℕ). T (test m (get_or xs k default))) (zero-add k) (from xs 0 t k h)

-- the same of a table of lines with n places each, and a test of line, place and entry
module _ (test : ℕ → ℕ → ℕ → Bool) (n : ℕ) where
  abbrev pub filled : ℕ → List ℕ → Bool
  filled v line = eqb (length line) n && every (test v) 0 0 line

  pub at_place : (table : List (List ℕ)) → T (every filled [] 0 table) → (v k : ℕ) → v < length table → k < n → T (test v k (get_or (get_or table v []) k 0))
  at_place table t v k few low =
      let line = get_or table v [] in
      let both = at_each filled [] table t v few in
      let full = eqb→eq (length line) n (and_l (eqb (length line) n) (every (test v) 0 0 line) both) in
      at_each (test v) 0 line (and_r (eqb (length line) n) (every (test v) 0 0 line) both) k (omega arith)
