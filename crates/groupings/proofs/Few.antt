-- Each group has two stones of its own, so that 64 stones make at most 31 groups, and every group names stones of the list. Assumes nothing.
use Prim.Native.Nat.{ℕ, ◌+◌, ◌≤◌, ◌<◌}
use native.Mathlib.Omega.{arith}
use mathlib.Core.Path.{◌≡◌, refl, sym, ◌∙◌, subst}
use mathlib.Core.Bool.{true, false, true≢false}
use mathlib.Core.List.{List, [], ◌∷◌, ◌++◌}
use mathlib.Core.Logic.{◌⊎◌, inl, inr, ⊎_elim}
use lib.ListN.{length, length-append}
use Rattle.refusals.specs.Limits.{most_stones}
use Rattle.refusals.specs.Finding.{Finding, found, refused}
use Rattle.pieces.specs.Count.{Mem, Distinct}
use Rattle.pieces.proofs.Counting.{below_length}
use Rattle.table.specs.declared.Table.{Table}
use Rattle.capstones.specs.declared.CapStone.{CapStone}
use Rattle.match_capstones.specs.All.{All, all_one}
use Rattle.match_capstones.specs.Proper.{Proper}
use Rattle.match_capstones.specs.declared.Pair.{Pair}
use Rattle.match_capstones.proofs.Pairs.{pairs_proper}
use Rattle.grids.specs.declared.SkewedGridLocation.{SkewedGridLocation}
use Rattle.groupings.specs.Used.{trio_of, is_used, pair_used}
use Rattle.groupings.specs.Groups.{after_trial, PairTried, passed_over, on_trial, PairsTried, no_pair_left, next_pair, pair_refused, CentreTried, used_before, with_pairs, CentresTried, no_centre_left, next_centre, centre_refused, Grouped}
use Rattle.groupings.specs.Held.{most_groups, Low, Counted, Beside}
use Rattle.groupings.specs.declared.Trio.{Trio}
use Rattle.groupings.proofs.Uses.{or_false, used_still, used_now, names_first, names_third}

pub same_groups : (a b : List Trio) → found a ≡ found b → a ≡ b
same_groups a b e = cc

mem_last : {A : Type 0} (l : List A) (x a : A) → Mem a (l ++ (x ∷ [])) → Mem a l ⊎ (a ≡ x)
mem_last [] x a m = ⊎_elim (λ e. inr e) (λ n. absurd n) m
mem_last (b ∷ l) x a m = ⊎_elim (λ e. inl (inl e)) (λ n. ⊎_elim (λ y. inl (inr y)) (λ y. inr y) (mem_last l x a n)) m

pub counted_none : (n : ℕ) → Counted n []
counted_none n =
    record { own = []; apart = tt; count = refl; used = λ i m. absurd m; low = λ t m. absurd m; own_low = λ i m. absurd m; spare = omega arith }

-- a centre that is not used
pub beside_unused : {n idx : ℕ} {groups : List Trio} → Counted n groups → is_used groups idx ≡ false → idx < n → Beside n idx groups
beside_unused {idx = idx} C free low = record { counted = C; other = λ m. true≢false (sym (C.used idx m) ∙ free); centre_low = low }

-- a pair whose stones are not used
module _ {n idx : ℕ} {groups : List Trio} {pair : Pair} (B : Beside n idx groups) (P : Proper n idx pair) (free : pair_used groups pair ≡ false) where
  abbrev own : List ℕ
  own = B.counted.own

  fresh : (is_used groups pair.h ≡ false) × (is_used groups pair.v ≡ false)
  fresh = or_false (is_used groups pair.h) (is_used groups pair.v) free

  h_new : Mem pair.h own → ⊥
  h_new m = true≢false (sym (B.counted.used pair.h m) ∙ fresh.0)

  v_new : Mem pair.v own → ⊥
  v_new m = true≢false (sym (B.counted.used pair.v m) ∙ fresh.1)

  abbrev more : List ℕ
  more = pair.h ∷ pair.v ∷ own

  more_apart : Distinct more
  more_apart = ((λ m. ⊎_elim P.apart h_new m), (v_new, B.counted.apart))

  more_low : (i : ℕ) → Mem i more → i < n
  more_low i m = ⊎_elim (λ e. rw e P.h_low) (λ r. ⊎_elim (λ e. rw e P.v_low) (λ s. B.counted.own_low i s) r) m

  centre_other : Mem idx more → ⊥
  centre_other m = ⊎_elim (λ e. P.h_other (sym e)) (λ r. ⊎_elim (λ e. P.v_other (sym e)) B.other r) m

  -- the centre, the pair, and two stones for each group are of n
  pub pair_room : 3 + (length groups + length groups) ≤ n
  pair_room =
      let all = below_length n (idx ∷ more) (centre_other, more_apart) (λ i m. ⊎_elim (λ e. rw e B.centre_low) (more_low i) m) in
      omega (arith, all, B.counted.count)

  abbrev next : List Trio
  next = groups ++ (trio_of idx pair ∷ [])

  next_length : length next ≡ length groups + 1
  next_length = length-append groups (trio_of idx pair ∷ [])

  next_used : (i : ℕ) → Mem i more → is_used next i ≡ true
  next_used i m =
      ⊎_elim (λ e. rw e (used_now groups (trio_of idx pair) pair.h (names_first (trio_of idx pair))))
      (λ r. ⊎_elim (λ e. rw e (used_now groups (trio_of idx pair) pair.v (names_third (trio_of idx pair)))) (λ s. used_still groups _ i (B.counted.used i s)) r)
      m

  next_low : (t : Trio) → Mem t next → Low n t
  next_low t m =
      ⊎_elim (B.counted.low t) (λ e. rw e (record { first = P.h_low; second = B.centre_low; third = P.v_low })) (mem_last groups (trio_of idx pair) t m)

  pub beside_more : Beside n idx next
  beside_more =
      record {
        counted = record { own = more; apart = more_apart; count = omega (arith, next_length, B.counted.count); used = next_used; low = next_low; own_low = more_low; spare = omega (arith, next_length, pair_room) };
        other = centre_other;
        centre_low = B.centre_low;
      }

-- what a trial leaves: the groups as they were, or one more
after_either : (groups next : List Trio) (t : Trio) (fit : Finding (List SkewedGridLocation)) → found next ≡ after_trial groups t fit → (next ≡ groups) ⊎ (next ≡ groups ++ (t ∷ []))
unfolding after_trial
after_either groups next t (found []) e = inl (same_groups next groups e)
after_either groups next t (found (grid ∷ more)) e = inr (same_groups next (groups ++ (t ∷ [])) e)
after_either groups next t (refused n) e = let z : ◌≡◌ {A = ℕ} 0 1 = cc in absurd (omega arith)

module _ {p : List ℕ} {w h : ℕ} {T : Table} {stones : List CapStone} where
  pub pair_counted : {n idx : ℕ} {pair : Pair} {groups next : List Trio} → Beside n idx groups → Proper n idx pair → PairTried p w h T stones idx pair groups (found next) → Beside n idx next
  pair_counted {n} {idx} {pair} {groups} {next} B P (passed_over used e) = subst (Beside n idx) (sym (same_groups next groups e)) B
  pair_counted {n} {idx} {pair} {groups} {next} B P (on_trial free fit X e) =
      ⊎_elim (λ i. subst (Beside n idx) (sym i) B) (λ i. subst (Beside n idx) (sym i) (beside_more B P free)) (after_either groups next (trio_of idx pair) fit e)

  pub pairs_counted : {n idx : ℕ} {pairs : List Pair} {groups next : List Trio} {f : Finding (List Trio)} → Beside n idx groups → All (Proper n idx) pairs → f ≡ found next → PairsTried p w h T stones idx pairs groups f → Beside n idx next
  pairs_counted {n} {idx} {groups = groups} {next = next} B all e no_pair_left = subst (Beside n idx) (same_groups groups next e) B
  pairs_counted B (all_one P all) e (next_pair X S) = pairs_counted (pair_counted B P X) all e S
  pairs_counted B all e (pair_refused X) = let z : ◌≡◌ {A = ℕ} 0 1 = cc in absurd (omega arith)

  pub centre_counted : {idx : ℕ} {groups next : List Trio} → idx < length stones → Counted (length stones) groups → CentreTried p w h T stones idx groups (found next) → Counted (length stones) next
  centre_counted {idx} {groups} {next} low C (used_before used e) = subst (Counted (length stones)) (sym (same_groups next groups e)) C
  centre_counted {idx} {groups} {next} low C (with_pairs free S) = (pairs_counted (beside_unused C free low) (pairs_proper stones idx) refl S).counted

  centres_counted : {left idx : ℕ} {groups next : List Trio} {f : Finding (List Trio)} → idx + left ≡ length stones → Counted (length stones) groups → f ≡ found next → CentresTried p w h T stones left idx groups f → Counted (length stones) next
  centres_counted {groups = groups} {next = next} at C e no_centre_left = subst (Counted (length stones)) (same_groups groups next e) C
  centres_counted at C e (next_centre X S) = centres_counted (omega (arith, at)) (centre_counted (omega (arith, at)) C X) e S
  centres_counted at C e (centre_refused X) = let z : ◌≡◌ {A = ℕ} 0 1 = cc in absurd (omega arith)

  -- the groups that stones come to
  module _ {groups : List Trio} (G : Grouped p w h T stones (found groups)) where
    grouped_counted : Counted (length stones) groups
    grouped_counted = centres_counted {left = length stones} {idx = 0} (omega arith) (counted_none (length stones)) refl G

    -- "At most 31 groups result"
    pub groups_few : length stones ≤ most_stones → length groups ≤ most_groups
    groups_few few = omega (arith, grouped_counted.spare, few)

    -- each names stones of the list
    pub groups_low : (t : Trio) → Mem t groups → Low (length stones) t
    groups_low = grouped_counted.low
