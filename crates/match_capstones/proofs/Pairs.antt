-- Every pair that a ranking answers names two stones of the list, other than the stone at hand and than each other; no pair stands twice; and there are no more than 992.
-- Assumes nothing.
use Prim.Native.Nat.{ℕ, suc, ◌+◌, ◌≤◌, ◌<◌}
use native.Mathlib.Nat.{zero-add}
use native.Mathlib.Omega.{arith}
use mathlib.Core.Path.{◌≡◌, refl, sym, ap, ◌∙◌}
use mathlib.Core.Bool.{true, not}
use mathlib.Core.List.{List, [], ◌∷◌, map}
use lib.Dec.{eqb}
use lib.Ieee.{Float}
use lib.ListN.{length, get_or, length-map}
use Rattle.geometry.specs.declared.Perspective.{Perspective}
use Rattle.geometry.specs.declared.GridPoint.{GridPoint}
use Rattle.capstones.specs.declared.CapStone.{CapStone}
use Rattle.capstones.specs.Blank.{no_stone}
use Rattle.match_capstones.specs.Only.{only}
use Rattle.match_capstones.specs.All.{All, all_none, all_one, Pairwise, Across}
use Rattle.match_capstones.specs.Neighbors.{offset, in_line, neighbor, one_in_line, Other, other, others, neighbors, others_of, hlist, vlist}
use Rattle.match_capstones.specs.Scores.{viable, set_of, one_set, sets_of, made}
use Rattle.match_capstones.specs.Order.{ranked}
use Rattle.refusals.specs.Limits.{most_stones}
use Rattle.match_capstones.specs.Answer.{most_pairs, pair_of, pairs_of}
use Rattle.match_capstones.specs.Proper.{Proper, Differ, Once}
use Rattle.match_capstones.specs.declared.Neighbor.{Neighbor}
use Rattle.match_capstones.specs.declared.NeighborSet.{NeighborSet}
use Rattle.match_capstones.proofs.All.{all_only, all_flat_map, all_every, all_both, all_any, all_map, all_others, pairwise_append, pairwise_only, pairwise_flat_map}
use Rattle.match_capstones.proofs.Apart.{seen_apart, lists_few}
use Rattle.match_capstones.proofs.Count.{made_few, product_few}
use Rattle.match_capstones.proofs.Swap.{Insertion, at_end, further, here, insertion}
use Rattle.match_capstones.proofs.Meaning.{all_in}

-- ---- what the neighbours are

-- stone i of the list, seen by stone idx
abbrev seen : List CapStone → ℕ → ℕ → GridPoint
seen stones idx i = offset (get_or stones idx no_stone).c (get_or stones i no_stone).center

-- another stone of the list, where it lies
record Seen (stones : List CapStone) (idx : ℕ) (o : Other) : Type 0 where
  low : o.index < length stones
  other : o.index ≡ idx → ⊥
  at : o.at ≡ seen stones idx o.index

-- another stone of the list, in line
record Beside (stones : List CapStone) (idx : ℕ) (across along : GridPoint → Float) (n : Neighbor) : Type 0 where
  low : n.index < length stones
  other : n.index ≡ idx → ⊥
  line : in_line (across (seen stones idx n.index)) (along (seen stones idx n.index)) ≡ true

module _ (stones : List CapStone) (idx : ℕ) where
  all_seen : All (Seen stones idx) (others_of stones idx)
  all_seen = all_others (Seen stones idx) (get_or stones idx no_stone).c idx 0 stones each
    where
      each : (i : ℕ) → i < length stones → (0 + i ≡ idx → ⊥) → Seen stones idx (other (get_or stones idx no_stone).c (0 + i) (get_or stones i no_stone))
      each i low ne = rw (zero-add i) (record { low = low; other = λ e. ne (zero-add i ∙ e); at = refl })

  all_beside : (across along : GridPoint → Float) → All (Beside stones idx across along) (neighbors across along (others_of stones idx))
  all_beside across along = all_flat_map (λ o. one_in_line o.index (across o.at) (along o.at)) each all_seen
    where
      each : (o : Other) → Seen stones idx o → All (Beside stones idx across along) (one_in_line o.index (across o.at) (along o.at))
      each o s =
          all_only (Beside stones idx across along) (in_line (across o.at) (along o.at)) (neighbor o.index (along o.at))
          (λ t. record { low = s.low; other = s.other; line = rw s.at at t })

  -- no stone is in both lists
  pub lists_disjoint : Across (λ hn vn. hn.index ≡ vn.index → ⊥) (hlist (others_of stones idx)) (vlist (others_of stones idx))
  lists_disjoint = all_every (λ hn h. all_every (λ vn v. apart hn vn h v) (all_beside (λ p. p.v) (λ p. p.u))) (all_beside (λ p. p.u) (λ p. p.v))
    where
      apart : (hn vn : Neighbor) → Beside stones idx (λ p. p.u) (λ p. p.v) hn → Beside stones idx (λ p. p.v) (λ p. p.u) vn → hn.index ≡ vn.index → ⊥
      apart hn vn h v e = seen_apart (get_or stones idx no_stone).c (get_or stones hn.index no_stone).center h.line (rw (sym e) at v.line)

  -- ---- what the pairs are

  all_made : All (λ s. Proper (length stones) idx (pair_of s)) (made (hlist (others_of stones idx)) (vlist (others_of stones idx)))
  all_made =
      all_flat_map (sets_of (vlist (others_of stones idx)))
      (λ hn h. all_flat_map (one_set hn) (λ vn v. all_only _ (viable (set_of hn vn).score) (set_of hn vn) (λ _. proper hn vn h.0 v.0 v.1)) (all_both (all_beside (λ p. p.v) (λ p. p.u)) h.1))
      (all_both (all_beside (λ p. p.u) (λ p. p.v)) lists_disjoint)
    where
      proper : (hn vn : Neighbor)
          → Beside stones idx (λ p. p.u) (λ p. p.v) hn
          → Beside stones idx (λ p. p.v) (λ p. p.u) vn
          → (hn.index ≡ vn.index → ⊥)
          → Proper (length stones) idx (pair_of (set_of hn vn))
      proper hn vn h v apart = record { h_low = h.low; v_low = v.low; h_other = h.other; v_other = v.other; apart = apart }

all_ranked : {P : NeighborSet → Type 0} {l : List NeighborSet} → All P l → All P (ranked l)
unfolding ranked
all_ranked all_none = all_none
all_ranked (all_one p ps) = all_in (insertion _ _) p (all_ranked ps)

pub pairs_proper : (stones : List CapStone) (idx : ℕ) → All (Proper (length stones) idx) (pairs_of stones idx)
unfolding pairs_of
pairs_proper stones idx = all_map (Proper (length stones) idx) pair_of (λ s p. p) (all_ranked (all_made stones idx))

-- ---- none twice

abbrev Later : Neighbor → Neighbor → Type 0
Later m n = m.index < n.index

abbrev Unlike : NeighborSet → NeighborSet → Type 0
Unlike s t = Differ (pair_of s) (pair_of t)

others_later : (c : Perspective) (idx k : ℕ) (l : List CapStone) → Pairwise (λ (o p : Other). o.index < p.index) (others c idx k l)
unfolding others
others_later c idx k [] = tt
others_later c idx k (s ∷ l) =
    pairwise_append (λ o p. o.index < p.index) (only (not (eqb k idx)) (other c k s)) (others c idx (suc k) l)
    (pairwise_only _ (not (eqb k idx)) (other c k s))
    (others_later c idx (suc k) l)
    (all_only _ (not (eqb k idx)) (other c k s) (λ _. all_others (λ p. k < p.index) c idx (suc k) l (λ i low ne. omega arith)))

neighbors_later : (across along : GridPoint → Float) (l : List Other) → Pairwise (λ (o p : Other). o.index < p.index) l → Pairwise Later (neighbors across along l)
neighbors_later across along l w =
    pairwise_flat_map (λ o p. o.index < p.index) Later (λ o. one_in_line o.index (across o.at) (along o.at))
    (λ o. pairwise_only Later (in_line (across o.at) (along o.at)) (neighbor o.index (along o.at)))
    (λ o p low. all_only _ (in_line (across o.at) (along o.at)) (neighbor o.index (along o.at)) (λ _. all_only _ (in_line (across p.at) (along p.at)) (neighbor p.index (along p.at)) (λ _. low)))
    l
    w

sets_unlike : (hn : Neighbor) (vns : List Neighbor) → Pairwise Later vns → Pairwise Unlike (sets_of vns hn)
sets_unlike hn vns w =
    pairwise_flat_map Later Unlike (one_set hn) (λ vn. pairwise_only Unlike (viable (set_of hn vn).score) (set_of hn vn))
    (λ vn wn low. all_only _ (viable (set_of hn vn).score) (set_of hn vn) (λ _. all_only _ (viable (set_of hn wn).score) (set_of hn wn) (λ _ e f. omega arith)))
    vns
    w

-- all sets of one neighbour have its index
sets_of_lem : (hn : Neighbor) (vns : List Neighbor) → All (λ s. s.h ≡ hn.index) (sets_of vns hn)
sets_of_lem hn vns = all_flat_map (one_set hn) (λ vn _. all_only _ (viable (set_of hn vn).score) (set_of hn vn) (λ _. refl)) (all_any vns)

made_unlike : (hns vns : List Neighbor) → Pairwise Later hns → Pairwise Later vns → Pairwise Unlike (made hns vns)
made_unlike hns vns v w =
    pairwise_flat_map Later Unlike (sets_of vns) (λ hn. sets_unlike hn vns w)
    (λ hn in' low. all_every (λ s e. all_every (λ t f e' f'. omega arith) (sets_of_lem in' vns)) (sets_of_lem hn vns))
    hns
    v

unlike_in : {s : NeighborSet} {l r : List NeighborSet} → Insertion s l r → All (Unlike s) l → Pairwise Unlike l → Pairwise Unlike r
unlike_in at_end ps w = (all_none, tt)
unlike_in (further e i) (all_one p ps) w = (all_in i (λ a b. p (sym a) (sym b)) w.0, unlike_in i ps w.1)
unlike_in (here e) ps w = (ps, w)

unlike_ranked : (l : List NeighborSet) → Pairwise Unlike l → Pairwise Unlike (ranked l)
unfolding ranked
unlike_ranked [] w = tt
unlike_ranked (s ∷ l) w = unlike_in (insertion s (ranked l)) (all_ranked w.0) (unlike_ranked l w.1)

once_of : (l : List NeighborSet) → Pairwise Unlike l → Once (map pair_of l)
once_of [] w = tt
once_of (s ∷ l) w = (all_map (Differ (pair_of s)) pair_of (λ t d. d) w.0, once_of l w.1)

pub pairs_once : (stones : List CapStone) (idx : ℕ) → Once (pairs_of stones idx)
unfolding pairs_of
pairs_once stones idx =
    let later = others_later (get_or stones idx no_stone).c idx 0 stones in
    let hns = hlist (others_of stones idx) in
    let vns = vlist (others_of stones idx) in
    once_of (ranked (made hns vns)) (unlike_ranked (made hns vns) (made_unlike hns vns (neighbors_later _ _ _ later) (neighbors_later _ _ _ later)))

-- ---- no more than 992

longer_in : {s : NeighborSet} {l r : List NeighborSet} → Insertion s l r → length r ≡ suc (length l)
longer_in at_end = refl
longer_in (further e i) = ap suc (longer_in i)
longer_in (here e) = refl

ranked_length : (l : List NeighborSet) → length (ranked l) ≡ length l
unfolding ranked
ranked_length [] = refl
ranked_length (s ∷ l) = longer_in (insertion s (ranked l)) ∙ ap suc (ranked_length l)

pub pairs_few : (stones : List CapStone) (idx : ℕ) → idx < length stones → length stones ≤ most_stones → length (pairs_of stones idx) ≤ most_pairs
unfolding pairs_of
pairs_few stones idx low few =
    let hns = hlist (others_of stones idx) in
    let vns = vlist (others_of stones idx) in
    let long : length (map pair_of (ranked (made hns vns))) ≡ length (made hns vns) = length-map (ranked (made hns vns)) pair_of ∙ ranked_length (made hns vns) in
    omega (arith, long, made_few hns vns, product_few (length hns) (length vns) (lists_few stones idx low few))
