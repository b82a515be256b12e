-- `ranked` computes a ranking of the sets made, and there is no other: a list that is sorted, with sets that rank alike as they were made, is that one.
-- Assumes nothing.
use Prim.Native.Nat.{ℕ}
use mathlib.Core.Path.{◌≡◌, refl, sym, ap, ap₂, ◌∙◌}
use mathlib.Core.Bool.{Bool, true, false, not, true≢false}
use mathlib.Core.List.{List, [], ◌∷◌, ◌++◌, map, flat_map, nil≢cons, cons≢nil, head-eq_of_cons-eq, append_cancel_left}
use borrow.Author.Tests.{not-true}
use lib.Ieee.{Float}
use Rattle.capstones.specs.declared.CapStone.{CapStone}
use Rattle.match_capstones.specs.Only.{only}
use Rattle.match_capstones.specs.All.{All, all_none, all_one}
use Rattle.match_capstones.specs.Neighbors.{others_of, hlist, vlist}
use Rattle.match_capstones.specs.Scores.{made}
use Rattle.match_capstones.specs.Answer.{pair_of, pairs_of}
use Rattle.match_capstones.specs.Order.{ranks_before, alike, Sorted, alikes, RankingOf, ranked}
use Rattle.match_capstones.specs.declared.NeighborSet.{NeighborSet}
use Rattle.match_capstones.proofs.Floats.{and_both}
use Rattle.match_capstones.proofs.Before.{once_before, not_before, never_itself}
use Rattle.match_capstones.proofs.All.{all_every, all_flat_map, all_only}
use Rattle.match_capstones.proofs.Swap.{sooner, Insertion, at_end, further, here, insertion}

-- ---- sorted

-- what s and all of a list have, all of the list with s have
pub all_in : {P : NeighborSet → Type 0} {s : NeighborSet} {l r : List NeighborSet} → Insertion s l r → P s → All P l → All P r
all_in at_end p all_none = all_one p all_none
all_in (further e i) p (all_one q qs) = all_one q (all_in i p qs)
all_in (here e) p qs = all_one p qs

sorted_in : {s : NeighborSet} {l r : List NeighborSet} → Insertion s l r → Sorted l → Sorted r
sorted_in at_end w = (all_none, tt)
sorted_in {s = s} (further {t = t} e i) w = (all_in i (once_before t.score s.score e) w.0, sorted_in i w.1)
sorted_in {s = s} (here {t = t} e) w = (all_one e (all_every (λ q h. not_before s.score t.score q.score e h) w.0), w)

pub ranked_sorted : (l : List NeighborSet) → Sorted (ranked l)
unfolding ranked
ranked_sorted [] = tt
ranked_sorted (s ∷ l) = sorted_in (insertion s (ranked l)) (ranked_sorted l)

-- ---- those that rank alike, as they were made

-- of two that rank as x does neither ranks before the other
alike_both : (x : Float) (s t : NeighborSet) → alike x s.score ≡ true → alike x t.score ≡ true → sooner t s ≡ false
alike_both x s t a b =
    not_before s.score x t.score (not-true _ (and_both (not (ranks_before x s.score)) (not (ranks_before s.score x)) a).0)
    (not-true _ (and_both (not (ranks_before x t.score)) (not (ranks_before t.score x)) b).1)

-- two tests that do not both hold: what they let through may be taken in either order
either_order : {A : Type 0} (a b : Bool) (s t : A) (l : List A) → (a ≡ true → b ≡ true → ⊥) → only b t ++ (only a s ++ l) ≡ only a s ++ (only b t ++ l)
either_order true true s t l apart = absurd (apart refl refl)
either_order true false s t l apart = refl
either_order false true s t l apart = refl
either_order false false s t l apart = refl

alikes_in : {s : NeighborSet} {l r : List NeighborSet} (x : Float) → Insertion s l r → alikes x r ≡ alikes x (s ∷ l)
unfolding flat_map
alikes_in x at_end = refl
alikes_in {s = s} x (further {t = t} {l = l} e i) =
    ap (λ (r : List NeighborSet). only (alike x t.score) t ++ r) (alikes_in x i)
    ∙ either_order (alike x s.score) (alike x t.score) s t (alikes x l) (λ a b. true≢false (sym e ∙ alike_both x s t a b))
alikes_in x (here e) = refl

ranked_same : (x : Float) (l : List NeighborSet) → alikes x (ranked l) ≡ alikes x l
unfolding flat_map ranked
ranked_same x [] = refl
ranked_same x (s ∷ l) = alikes_in x (insertion s (ranked l)) ∙ ap (λ (r : List NeighborSet). only (alike x s.score) s ++ r) (ranked_same x l)

pub ranked_is : (l : List NeighborSet) → RankingOf l (ranked l)
ranked_is l = record { sorted = ranked_sorted l; same = λ x. ranked_same x l }

-- ---- and no other

alike_itself : (x : Float) → alike x x ≡ true
alike_itself x = rw (never_itself x)

-- a set leads those that rank as it does
leads : (s : NeighborSet) (l : List NeighborSet) → alikes s.score (s ∷ l) ≡ s ∷ alikes s.score l
unfolding flat_map
leads s l = rw (alike_itself s.score)

head_of : {A : Type 0} {P : A → Type 0} {x : A} {l : List A} → All P (x ∷ l) → P x
head_of (all_one p ps) = p

-- of those that rank as x does, the first has what all of the list have
first_has : {P : NeighborSet → Type 0} {l rest : List NeighborSet} (x : Float) (s : NeighborSet) → All P l → alikes x l ≡ s ∷ rest → P s
first_has {P} x s all e = head_of (rw e at (all_flat_map {Q = P} (λ t. only (alike x t.score) t) (λ t p. all_only P (alike x t.score) t (λ _. p)) all))

-- no set of a sorted list ranks before its first
none_sooner : (q : NeighborSet) (l : List NeighborSet) → Sorted (q ∷ l) → All (λ t. sooner t q ≡ false) (q ∷ l)
none_sooner q l w = all_one (never_itself q.score) w.0

sorted_only : (a b : List NeighborSet) → Sorted a → Sorted b → ((x : Float) → alikes x a ≡ alikes x b) → a ≡ b
unfolding flat_map
sorted_only [] [] v w same = refl
sorted_only [] (q ∷ b) v w same = absurd (nil≢cons (same q.score ∙ leads q b))
sorted_only (p ∷ a) [] v w same = absurd (cons≢nil (sym (leads p a) ∙ same p.score))
sorted_only (p ∷ a) (q ∷ b) v w same =
    let p-late : sooner p q ≡ false = first_has p.score p (none_sooner q b w) (sym (same p.score) ∙ leads p a) in
    let q-late : sooner q p ≡ false = first_has q.score q (none_sooner p a v) (same q.score ∙ leads q b) in
    let q-leads : alikes p.score (q ∷ b) ≡ q ∷ alikes p.score b = rw (p-late, q-late) in
    let e : p ≡ q = head-eq_of_cons-eq (sym (leads p a) ∙ same p.score ∙ q-leads) in
    let rest : a ≡ b =
    sorted_only a b v.1 w.1
    (λ x. append_cancel_left (only (alike x p.score) p) (alikes x a) (alikes x b) (same x ∙ ap (λ (r : NeighborSet). only (alike x r.score) r ++ alikes x b) (sym e))) in
    ap₂ ◌∷◌ e rest

pub ranking_only : {l a b : List NeighborSet} → RankingOf l a → RankingOf l b → a ≡ b
ranking_only {l} {a} {b} v w = sorted_only a b v.sorted w.sorted (λ x. v.same x ∙ sym (w.same x))

-- so the pairs are those of any list that is a ranking of the sets made
pub pairs_in_order : (stones : List CapStone) (idx : ℕ) (l : List NeighborSet) → RankingOf (made (hlist (others_of stones idx)) (vlist (others_of stones idx))) l → pairs_of stones idx ≡ map pair_of l
unfolding pairs_of
pairs_in_order stones idx l w = ap (map pair_of) (ranking_only (ranked_is (made (hlist (others_of stones idx)) (vlist (others_of stones idx)))) w)
