-- What is written into a table for a number, at its place in the age order, is the operation's table. Assumes nothing.
use Prim.Native.Nat.{ℕ, zero, suc, ◌+◌, ◌-◌, ◌<◌}
use native.Mathlib.Decide.{ℕ_discrete}
use native.Mathlib.Nat.{le_of_suc-le-suc, not-suc-le-zero}
use native.Mathlib.Omega.{arith}
use mathlib.Core.Path.{◌≡◌, sym, ap, ◌∙◌}
use mathlib.Core.List.{List, [], ◌∷◌}
use mathlib.Core.Logic.{by_cases}
use lib.ListN.{length, set, take}
use lib.Seq.{set-get_or, take-set-le, drop-set-lt}
use borrow.Author.Tests.{eq-eqb, ne_eqb}
use Rattle.table.specs.Age.{FirstAt, times, without, left_out}
use Rattle.table.specs.Table.{most, blank, entry_of, oldest_of, newest, added, replaced}
use Rattle.table.specs.Sound.{Ordered}
use Rattle.table.proofs.Kept.{oldest_first, next_first}
use Rattle.table.specs.declared.Entry.{Entry}
use Rattle.table.specs.declared.Table.{Table}

-- the entry of k is e, k comes from place i to the front, and there are n entries
abbrev pub written : Table → ℕ → ℕ → Entry → ℕ → Table
written T k i e n = record { entries = set T.entries k e; age = k ∷ left_out i T.age; n = n }

-- to take the first k out is to take out what stands at its place
without_first : (k i : ℕ) (l : List ℕ) → FirstAt k i l → without k l ≡ left_out i l
unfolding without times
without_first k i [] F = absurd (not-suc-le-zero F.inside)
without_first k zero (x ∷ l) F = rw (eq-eqb x k F.is_k)
without_first k (suc i) (x ∷ l) F =
    by_cases (ℕ_discrete x k)
    (λ e. let z : suc (times k (take i l)) ≡ 0 = rw (eq-eqb x k e) at F.not_before in absurd (omega arith))
    (λ n.
    rw (ne_eqb x k n)
    (ap (λ (m : List ℕ). x ∷ m) (without_first k i l (record { inside = le_of_suc-le-suc F.inside; is_k = F.is_k; not_before = rw (ne_eqb x k n) at F.not_before }))))

-- its own entry again: the number is made the newest
pub newest_written : (T : Table) (k i : ℕ) → FirstAt k i T.age → written T k i (entry_of T k) T.n ≡ newest T k
newest_written T k i F =
    let entries = set-get_or T.entries k blank in
    let age = without_first k i T.age F in
    λ j. record { entries = entries j; age = k ∷ sym age j; n = T.n }

module _ (T : Table) (A : length T.age ≡ most) (O : Ordered T) (e : Entry) where
  -- the next number comes from behind the others
  pub added_written : T.n < most → written T T.n T.n e (T.n + 1) ≡ added T e
  added_written room =
      let n = T.n in
      let same : left_out n (set T.age n n) ≡ left_out n T.age =
      rw (take-set-le n T.age n n (omega arith), drop-set-lt (suc n) T.age n n (omega arith)) in
      let age = without_first n n (set T.age n n) (next_first T A O room) ∙ same in
      λ j. record { entries = set T.entries n e; age = n ∷ sym age j; n = n + 1 }

  -- the oldest comes from the end
  pub replaced_written : 0 < T.n → written T (oldest_of T) (T.n - 1) e T.n ≡ replaced T (oldest_of T) e
  replaced_written some =
      let k = oldest_of T in
      let age = without_first k (T.n - 1) T.age (oldest_first T A O some) in
      λ j. record { entries = set T.entries k e; age = k ∷ sym age j; n = T.n }
