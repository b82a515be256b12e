-- Two sets side by side that are not in order may change places: the list ranks as it did. And a list in order is ranked already. Assumes nothing.
use Prim.Native.Nat.{ℕ, zero, suc, ◌<◌}
use native.Mathlib.Omega.{arith}
use mathlib.Core.Path.{◌≡◌, refl, sym, ap, ◌∙◌}
use mathlib.Core.Bool.{Bool, true, false, true≢false}
use mathlib.Core.List.{List, [], ◌∷◌}
use lib.ListN.{length, get_or, set}
use Rattle.std.specs.List.{swap}
use Rattle.std.proofs.lemmas.List.{get_or_default}
use Rattle.match_capstones.specs.Order.{ranks_before, inserted, ranked}
use Rattle.match_capstones.specs.declared.NeighborSet.{NeighborSet}
use Rattle.match_capstones.proofs.Before.{once_before, before_through}
use Rattle.match_capstones.proofs.Next.{no_set}

-- a set ranks before another
abbrev pub sooner : NeighborSet → NeighborSet → Bool
sooner a b = ranks_before a.score b.score

-- the set at a place
abbrev pub at : List NeighborSet → ℕ → NeighborSet
at l i = get_or l i no_set

-- the library's `swap` writes each at the place of the other
pub swap_is : (l : List NeighborSet) (i j : ℕ) → i < length l → j < length l → swap l i j ≡ set (set l i (at l j)) j (at l i)
swap_is [] i j a b = absurd (omega arith)
swap_is (d ∷ l) i j a b = rw (get_or_default (d ∷ l) j d no_set b, get_or_default (d ∷ l) i d no_set a)

passes : (s t : NeighborSet) (l : List NeighborSet) → sooner t s ≡ true → inserted s (t ∷ l) ≡ t ∷ inserted s l
unfolding inserted
passes s t l h = rw h

stops : (s t : NeighborSet) (l : List NeighborSet) → sooner t s ≡ false → inserted s (t ∷ l) ≡ s ∷ t ∷ l
unfolding inserted
stops s t l h = rw h

alone : (s : NeighborSet) → inserted s [] ≡ s ∷ []
unfolding inserted
alone s = refl

-- what an insertion of s into a list makes of it
pub data Insertion (s : NeighborSet) : List NeighborSet → List NeighborSet → Type 0 where
  at_end : Insertion s [] (s ∷ [])
  further : {t : NeighborSet} {l r : List NeighborSet} → sooner t s ≡ true → Insertion s l r → Insertion s (t ∷ l) (t ∷ r)
  here : {t : NeighborSet} {l : List NeighborSet} → sooner t s ≡ false → Insertion s (t ∷ l) (s ∷ t ∷ l)

pub insertion : (s : NeighborSet) (l : List NeighborSet) → Insertion s l (inserted s l)
insertion s [] = rw alone at_end
insertion s (t ∷ l) = either (sooner t s) refl (insertion s l)
  where
    either : (x : Bool) → sooner t s ≡ x → Insertion s l (inserted s l) → Insertion s (t ∷ l) (inserted s (t ∷ l))
    either true e rest = rw (passes s t l e) (further e rest)
    either false e rest = rw (stops s t l e) (here e)

swap_inserted : (a b : NeighborSet) (l : List NeighborSet) → sooner b a ≡ true → inserted a (inserted b l) ≡ inserted b (inserted a l)
swap_inserted a b [] h = rw (alone b, alone a, passes a b [] h, stops b a [] (once_before b.score a.score h), alone a)
swap_inserted a b (q ∷ l) h = cases (sooner q b) (sooner q a) (swap_inserted a b l h) refl refl
  where
    cases : (x y : Bool) → inserted a (inserted b l) ≡ inserted b (inserted a l) → sooner q b ≡ x → sooner q a ≡ y → inserted a (inserted b (q ∷ l)) ≡ inserted b (inserted a (q ∷ l))
    cases true true same e f = rw (passes b q l e, passes a q l f, passes a q (inserted b l) f, passes b q (inserted a l) e, same)
    cases true false same e f = absurd (true≢false (sym (before_through q.score b.score a.score e h) ∙ f))
    cases false true same e f = rw (stops b q l e, passes a b (q ∷ l) h, passes a q l f, stops b q (inserted a l) e)
    cases false false same e f = rw (stops b q l e, passes a b (q ∷ l) h, stops a q l f, stops b a (q ∷ l) (once_before b.score a.score h))

-- the sets at places k and k + 1 change places
unfoldable pub swapped : List NeighborSet → ℕ → List NeighborSet
swapped l k = set (set l k (at l (suc k))) (suc k) (at l k)

pub ranked_swapped : (l : List NeighborSet) (k : ℕ) → suc k < length l → sooner (at l (suc k)) (at l k) ≡ true → ranked (swapped l k) ≡ ranked l
unfolding ranked swapped
ranked_swapped [] k low h = absurd (omega arith)
ranked_swapped (a ∷ []) zero low h = absurd (omega arith)
ranked_swapped (a ∷ b ∷ l) zero low h = sym (swap_inserted a b (ranked l) h)
ranked_swapped (x ∷ l) (suc k) low h = ap (inserted x) (ranked_swapped l k (omega arith) h)

-- no set ranks before its neighbour
pub ranked_already : (l : List NeighborSet) → ((k : ℕ) → suc k < length l → sooner (at l (suc k)) (at l k) ≡ false) → ranked l ≡ l
unfolding ranked
ranked_already [] calm = refl
ranked_already (x ∷ []) calm = alone x
ranked_already (x ∷ y ∷ l) calm =
    ap (inserted x) (ranked_already (y ∷ l) (λ k low. calm (suc k) (omega arith))) ∙ stops x y l (calm 0 (omega arith))
