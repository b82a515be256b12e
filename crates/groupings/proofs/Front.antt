-- The stones that count are the first n of an array: what pairs ask of them, and that the array past them is not looked at. Assumes nothing.
use Prim.Native.Nat.{ℕ, zero, suc, ◌≤◌, ◌<◌}
use native.Mathlib.Omega.{arith}
use mathlib.Core.Path.{◌≡◌, sym, subst}
use mathlib.Core.List.{List}
use lib.ListN.{length, get_or, take}
use lib.Seq.{get_or-take, length-take-le}
use Rattle.refusals.specs.Limits.{most_stones}
use Rattle.refusals.specs.Finding.{Finding}
use Rattle.table.specs.declared.Table.{Table}
use Rattle.capstones.specs.Blank.{no_stone}
use Rattle.capstones.specs.declared.CapStone.{CapStone}
use Rattle.match_capstones.specs.All.{All, all_none, all_one}
use Rattle.match_capstones.specs.Proper.{Proper}
use Rattle.match_capstones.specs.declared.Pair.{Pair}
use Rattle.groups.specs.Group.{Centred, Cornered}
use Rattle.groups.specs.declared.CapStoneGroup.{CapStoneGroup}
use Rattle.groupings.specs.Trial.{Trial}
use Rattle.groupings.specs.Used.{group_of, trio_of}
use Rattle.groupings.specs.Groups.{PairTried, passed_over, on_trial, PairsTried, no_pair_left, next_pair, pair_refused}
use Rattle.groupings.specs.Held.{Stones, Low, Beside, Triable}
use Rattle.groupings.specs.declared.Trio.{Trio}

-- what all of a list have, the one at k has
pub all_at : {A : Type 0} {P : A → Type 0} {l : List A} (k : ℕ) (d : A) → All P l → k < length l → P (get_or l k d)
all_at k d all_none low = absurd (omega arith)
all_at zero d (all_one x all) low = x
all_at (suc k) d (all_one x all) low = all_at k d all (omega arith)

-- a group of placed stones can be fitted
pub group_placed : {stones : List CapStone} {n : ℕ} (t : Trio) → Stones stones n → Low n t → Centred (group_of stones t) × Cornered (group_of stones t)
group_placed t S L =
    let a = S.each t.first L.first in
    let b = S.each t.second L.second in
    let c = S.each t.third L.third in
    (record { first = a.near; second = b.near; third = c.near }, record { first = a.framed; second = b.framed; third = c.framed })

module _ (stones : List CapStone) {n idx : ℕ} {pair : Pair} (low : idx < n) (P : Proper n idx pair) where
  pub triable : Stones stones n → Triable stones idx pair
  triable S =
      let fit = group_placed (trio_of idx pair) S (record { first = P.h_low; second = low; third = P.v_low }) in
      record {
        proper = record { h_low = omega (arith, P.h_low, S.few); v_low = omega (arith, P.v_low, S.few); h_other = P.h_other; v_other = P.v_other; apart = P.apart };
        centred = fit.0;
        cornered = fit.1;
      }

  same_group : group_of stones (trio_of idx pair) ≡ group_of (take n stones) (trio_of idx pair)
  same_group =
      let h = get_or-take n stones pair.h no_stone P.h_low in
      let c = get_or-take n stones idx no_stone low in
      let v = get_or-take n stones pair.v no_stone P.v_low in
      λ i. record { first = sym h i; second = sym c i; third = sym v i }

  pair_front : {p : List ℕ} {w h : ℕ} {T : Table} {groups : List Trio} {f : Finding (List Trio)} → PairTried p w h T stones idx pair groups f → PairTried p w h T (take n stones) idx pair groups f
  pair_front (passed_over used e) = passed_over used e
  pair_front {p} {w} {h} {T} (on_trial free fit X e) = on_trial free fit (subst (λ (g : CapStoneGroup). Trial p w h T g fit) same_group X) e

pub pairs_front : {p : List ℕ} {w h : ℕ} {T : Table} {stones : List CapStone} {n idx : ℕ} {pairs : List Pair} {groups : List Trio} {f : Finding (List Trio)}
    → idx < n → All (Proper n idx) pairs → PairsTried p w h T stones idx pairs groups f → PairsTried p w h T (take n stones) idx pairs groups f
pairs_front low all no_pair_left = no_pair_left
pairs_front {stones = stones} low (all_one P all) (next_pair X S) = next_pair (pair_front stones low P X) (pairs_front low all S)
pairs_front {stones = stones} low (all_one P all) (pair_refused X) = pair_refused (pair_front stones low P X)

-- groups of n stones are groups of 64
pub beside_wider : {n idx : ℕ} {groups : List Trio} → n ≤ most_stones → Beside n idx groups → Beside most_stones idx groups
beside_wider {n} {idx} {groups} few B =
    let C = B.counted in
    let wider : (t : Trio) → Low n t → Low most_stones t = λ t L. record { first = omega (arith, L.first); second = omega (arith, L.second); third = omega (arith, L.third) } in
    record {
      counted = record {
        own = C.own;
        apart = C.apart;
        count = C.count;
        used = C.used;
        low = λ t m. wider t (C.low t m);
        own_low = λ i m. let l = C.own_low i m in omega arith;
        spare = omega (arith, C.spare);
      };
      other = B.other;
      centre_low = omega (arith, B.centre_low);
    }

-- the first n of an array, as a list
pub stones_first : (stones : List CapStone) (n : ℕ) → n ≤ length stones → Stones stones n → Stones (take n stones) (length (take n stones))
stones_first stones n whole S =
    let long = length-take-le n stones whole in
    record {
      few = omega (arith, long, S.few);
      each = λ k low. let below : k < n = omega (arith, long) in rw (get_or-take n stones k no_stone below) (S.each k below);
    }
