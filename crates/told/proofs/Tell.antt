-- How a call comes to tell its answer: by a test of a slice's places, by a refusal, by values put in place. Assumes nothing.
use Prim.Native.Nat.{ℕ, suc, ◌≤◌, ◌<◌}
use native.Mathlib.Omega.{arith}
use mathlib.Core.Path.{◌≡◌, refl, ap}
use mathlib.Core.Bool.{Bool, true, false}
use mathlib.Core.List.{List, [], ◌∷◌, ◌++◌}
use lib.ListN.{length, drop, set}
use borrow.Author.Tests.{lt-ltb, le-ltb}
use Rattle.refusals.specs.Finding.{Finding, found, refused}
use Rattle.refusals.specs.Numbers.{number_of}
use Rattle.refusals.specs.declared.Refusal.{Refusal}
use Rattle.refusals.specs.declared.Refusal.TheVariants.{Room}
use Rattle.refusals.specs.First.{first, ◌when◌}
use Rattle.told.specs.Answer.{Values, these, nothing, status_of, held_after, Told, fewer_than}

module _ {A : Type 0} where
  -- a refusal's number, and the slice as it was
  pub tell_refused : (n : ℕ) (s : List A) → Told (refused n) s n s
  unfolding status_of held_after
  tell_refused n s = record { number_is = refl; after_is = refl }

  -- 255, and the slice as it was
  pub tell_nothing : (s : List A) → Told (found nothing) s 255 s
  unfolding status_of held_after
  tell_nothing s = record { number_is = refl; after_is = refl }

  -- 0, and the values before the rest of the slice
  pub tell_values : {s t : List A} (vs : List A) → t ≡ vs ++ drop (length vs) s → Told (found (these vs)) s 0 t
  unfolding status_of held_after
  tell_values vs e = record { number_is = refl; after_is = e }

  -- a test that applies, whatever is tested after it
  pub tell_first : (r : Refusal) (a : Finding (Values A)) (s : List A) {applies : Bool} → applies ≡ true → Told (first ((r when applies) ∷ []) a) s (number_of r) s
  tell_first r a s e = rw e (tell_refused (number_of r) s)

  -- one that does not
  pub tell_next : (r : Refusal) {a : Finding (Values A)} {s t : List A} {n : ℕ} {applies : Bool} → applies ≡ false → Told a s n t → Told (first ((r when applies) ∷ []) a) s n t
  tell_next r e told = rw e told

  -- a slice with too few places
  pub tell_short : (a : Finding (Values A)) (s : List A) {needed places : ℕ} → places < needed → Told (first (fewer_than needed places ∷ []) a) s 3 s
  tell_short a s {needed} {places} few = tell_first Room a s (lt-ltb places needed few)

  -- one with enough
  pub tell_enough : {a : Finding (Values A)} {s t : List A} {n needed places : ℕ} → needed ≤ places → Told a s n t → Told (first (fewer_than needed places ∷ []) a) s n t
  tell_enough {needed} {places} enough told = tell_next Room (le-ltb places needed enough) told

  -- a value stored right behind those that stand in the first places
  pub stored_next : (vs : List A) (v : A) (s : List A) → length vs < length s → set (vs ++ drop (length vs) s) (length vs) v ≡ (vs ++ (v ∷ [])) ++ drop (suc (length vs)) s
  stored_next [] v [] few = absurd (omega arith)
  stored_next [] v (x ∷ s) few = refl
  stored_next (w ∷ vs) v [] few = absurd (omega arith)
  stored_next (w ∷ vs) v (x ∷ s) few = ap (λ (t : List A). w ∷ t) (stored_next vs v s (omega arith))

  -- two of them
  pub stored_two : (vs : List A) (u v : A) (s : List A) → suc (length vs) < length s → set (set (vs ++ drop (length vs) s) (length vs) u) (suc (length vs)) v ≡ (vs ++ (u ∷ v ∷ [])) ++ drop (suc (suc (length vs))) s
  stored_two [] u v [] few = absurd (omega arith)
  stored_two [] u v (x ∷ []) few = absurd (omega arith)
  stored_two [] u v (x ∷ y ∷ s) few = refl
  stored_two (w ∷ vs) u v [] few = absurd (omega arith)
  stored_two (w ∷ vs) u v (x ∷ s) few = ap (λ (t : List A). w ∷ t) (stored_two vs u v s (omega arith))

  -- three of them
  pub stored_three : (vs : List A) (a b c : A) (s : List A) → suc (suc (length vs)) < length s → set (set (set (vs ++ drop (length vs) s) (length vs) a) (suc (length vs)) b) (suc (suc (length vs))) c ≡ (vs ++ (a ∷ b ∷ c ∷ [])) ++ drop (suc (suc (suc (length vs)))) s
  stored_three [] a b c [] few = absurd (omega arith)
  stored_three [] a b c (x ∷ []) few = absurd (omega arith)
  stored_three [] a b c (x ∷ y ∷ []) few = absurd (omega arith)
  stored_three [] a b c (x ∷ y ∷ z ∷ s) few = refl
  stored_three (w ∷ vs) a b c [] few = absurd (omega arith)
  stored_three (w ∷ vs) a b c (x ∷ s) few = ap (λ (t : List A). w ∷ t) (stored_three vs a b c s (omega arith))

  -- eight values stored one behind the other
  module _ (v0 v1 v2 v3 v4 v5 v6 v7 : A) where
    pub stored_eight : (s : List A) → 8 ≤ length s → set (set (set (set (set (set (set (set s 0 v0) 1 v1) 2 v2) 3 v3) 4 v4) 5 v5) 6 v6) 7 v7 ≡ v0 ∷ v1 ∷ v2 ∷ v3 ∷ v4 ∷ v5 ∷ v6 ∷ v7 ∷ drop 8 s
    stored_eight [] few = absurd (omega arith)
    stored_eight (x0 ∷ []) few = absurd (omega arith)
    stored_eight (x0 ∷ x1 ∷ []) few = absurd (omega arith)
    stored_eight (x0 ∷ x1 ∷ x2 ∷ []) few = absurd (omega arith)
    stored_eight (x0 ∷ x1 ∷ x2 ∷ x3 ∷ []) few = absurd (omega arith)
    stored_eight (x0 ∷ x1 ∷ x2 ∷ x3 ∷ x4 ∷ []) few = absurd (omega arith)
    stored_eight (x0 ∷ x1 ∷ x2 ∷ x3 ∷ x4 ∷ x5 ∷ []) few = absurd (omega arith)
    stored_eight (x0 ∷ x1 ∷ x2 ∷ x3 ∷ x4 ∷ x5 ∷ x6 ∷ []) few = absurd (omega arith)
    stored_eight (x0 ∷ x1 ∷ x2 ∷ x3 ∷ x4 ∷ x5 ∷ x6 ∷ x7 ∷ s) enough = refl
