-- How often a number stands in a list. Assumes nothing.
use Prim.Native.Nat.{ℕ, zero, suc, ◌+◌, ◌<◌}
use native.Mathlib.Decide.{ℕ_discrete}
use native.Mathlib.Nat.{zero-add}
use native.Mathlib.Omega.{arith}
use mathlib.Core.Path.{◌≡◌, refl, sym, ap, ◌∙◌}
use mathlib.Core.List.{List, [], ◌∷◌, ◌++◌, reverse, reverse-cons}
use mathlib.Core.Bool.{Bool, true, false, cond}
use mathlib.Core.Logic.{by_cases}
use lib.ListN.{length, get_or, take}
use lib.Dec.{eqb}
use borrow.Author.Tests.{eq-eqb, ne_eqb}
use Rattle.table.specs.Age.{Stands, times, without}

-- one more, if it is so
abbrev more : Bool → ℕ → ℕ
more b n = cond b (suc n) n

more_swap : (a b : Bool) (n : ℕ) → more a (more b n) ≡ more b (more a n)
more_swap true true n = refl
more_swap true false n = refl
more_swap false b n = refl

more_add : (b : Bool) (m n : ℕ) → more b (m + n) ≡ more b m + n
more_add true m n = omega arith
more_add false m n = refl

-- the order of two does not matter
times_swap : (k x y : ℕ) (l : List ℕ) → times k (x ∷ y ∷ l) ≡ times k (y ∷ x ∷ l)
unfolding times
times_swap k x y l = more_swap (eqb x k) (eqb y k) (times k l)

pub times_append : (k : ℕ) (l m : List ℕ) → times k (l ++ m) ≡ times k l + times k m
unfolding times
times_append k [] m = sym (zero-add (times k m))
times_append k (x ∷ l) m = ap (more (eqb x k)) (times_append k l m) ∙ more_add (eqb x k) (times k l) (times k m)

pub times_reverse : (k : ℕ) (l : List ℕ) → times k (reverse l) ≡ times k l
unfolding times
times_reverse k [] = refl
times_reverse k (x ∷ l) = rw (reverse-cons, times_append) (at_end (eqb x k) (times_reverse k l))
  where
    at_end : (b : Bool) {m n : ℕ} → m ≡ n → m + more b 0 ≡ more b n
    at_end true e = omega arith
    at_end false e = omega arith

-- what stands is counted, and what is counted stands
pub stands_times : (k : ℕ) (l : List ℕ) (i : ℕ) → i < length l → get_or l i 0 ≡ k → 0 < times k l
unfolding times
stands_times k [] i h e = absurd (omega arith)
stands_times k (x ∷ l) zero h e = rw (eq-eqb x k e) (omega arith)
stands_times k (x ∷ l) (suc i) h e = still (eqb x k) (stands_times k l i (omega arith) e)
  where
    still : (b : Bool) {n : ℕ} → 0 < n → 0 < more b n
    still true e = omega arith
    still false e = e

pub times_stands : (k : ℕ) (l : List ℕ) → 0 < times k l → Stands k l
unfolding times
times_stands k [] h = absurd (omega arith)
times_stands k (x ∷ l) h =
    by_cases (ℕ_discrete x k)
    (λ e. (0, omega arith, e))
    (λ n. let s = times_stands k l (rw (ne_eqb x k n) at h) in (suc s.0, omega (arith, s.1), s.2))

-- among the first n, k brought to the front changes no count
pub times_front : (j k n : ℕ) (l : List ℕ) → 0 < times k (take n l) → times j (take n (k ∷ without k l)) ≡ times j (take n l)
unfolding without times
times_front j k zero l h = refl
times_front j k (suc n) [] h = absurd (omega arith)
times_front j k (suc zero) (x ∷ l) h = by_cases (ℕ_discrete x k) (λ e. rw e) (λ n. absurd (omega (arith, rw (ne_eqb x k n) at h)))
times_front j k (suc (suc n)) (x ∷ l) h =
    by_cases (ℕ_discrete x k)
    (λ e. rw (without, eq-eqb x k e, e))
    (λ other.
    rw (without, ne_eqb x k other)
    (times_swap j k x (take n (without k l)) ∙ ap (more (eqb x j)) (times_front j k (suc n) l (rw (ne_eqb x k other) at h))))
