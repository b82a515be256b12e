-- What every element of a list has, and what every two have, lists made from it have. Assumes nothing.
use Prim.Native.Nat.{ℕ, suc, ◌+◌, ◌<◌}
use native.Mathlib.Nat.{add-zero}
use native.Mathlib.Omega.{arith}
use mathlib.Core.Path.{◌≡◌, refl, sym, ◌∙◌}
use mathlib.Core.Bool.{Bool, true, false, not}
use mathlib.Core.List.{List, [], ◌∷◌, ◌++◌, map, flat_map}
use borrow.Author.Tests.{eqb-false, not-true}
use lib.Dec.{eqb}
use lib.ListN.{length, get_or}
use Rattle.geometry.specs.declared.Perspective.{Perspective}
use Rattle.capstones.specs.declared.CapStone.{CapStone}
use Rattle.capstones.specs.Blank.{no_stone}
use Rattle.match_capstones.specs.Only.{only}
use Rattle.match_capstones.specs.Neighbors.{Other, other, others}
use Rattle.match_capstones.specs.All.{All, all_none, all_one, Pairwise, Across}

pub all_append : {A : Type 0} {P : A → Type 0} {a b : List A} → All P a → All P b → All P (a ++ b)
all_append all_none q = q
all_append (all_one p ps) q = all_one p (all_append ps q)

pub all_only : {A : Type 0} (P : A → Type 0) (test : Bool) (x : A) → (test ≡ true → P x) → All P (only test x)
all_only P true x p = all_one (p refl) all_none
all_only P false x p = all_none

pub all_flat_map : {A B : Type 0} {P : A → Type 0} {Q : B → Type 0} {l : List A} (f : A → List B) → ((x : A) → P x → All Q (f x)) → All P l → All Q (flat_map f l)
unfolding flat_map
all_flat_map f each all_none = all_none
all_flat_map f each (all_one p ps) = all_append (each _ p) (all_flat_map f each ps)

pub all_every : {A : Type 0} {P Q : A → Type 0} {l : List A} → ((x : A) → P x → Q x) → All P l → All Q l
all_every each all_none = all_none
all_every each (all_one p ps) = all_one (each _ p) (all_every each ps)

pub all_both : {A : Type 0} {P Q : A → Type 0} {l : List A} → All P l → All Q l → All (λ x. P x × Q x) l
all_both all_none all_none = all_none
all_both (all_one p ps) (all_one q qs) = all_one (p, q) (all_both ps qs)

pub all_map : {A B : Type 0} {P : A → Type 0} {l : List A} (Q : B → Type 0) (f : A → B) → ((x : A) → P x → Q (f x)) → All P l → All Q (map f l)
all_map Q f each all_none = all_none
all_map Q f each (all_one p ps) = all_one (each _ p) (all_map Q f each ps)

-- every element is an element
pub all_any : {A : Type 0} (l : List A) → All (λ (_ : A). Unit {0}) l
all_any [] = all_none
all_any (x ∷ l) = all_one tt (all_any l)

module _ {A : Type 0} (S : A → A → Type 0) where
  pub pairwise_append : (a b : List A) → Pairwise S a → Pairwise S b → Across S a b → Pairwise S (a ++ b)
  pairwise_append [] b p q between = q
  pairwise_append (x ∷ a) b p q (all_one r rs) = (all_append p.0 r, pairwise_append a b p.1 q rs)

  pub pairwise_only : (test : Bool) (x : A) → Pairwise S (only test x)
  pairwise_only true x = (all_none, tt)
  pairwise_only false x = tt

  across_append : {b c a : List A} → Across S a b → Across S a c → Across S a (b ++ c)
  across_append all_none all_none = all_none
  across_append (all_one p ps) (all_one q qs) = all_one (all_append p q) (across_append ps qs)

  across_none : (a : List A) → Across S a []
  across_none a = all_every (λ x _. all_none) (all_any a)

-- where each list made has it, and two made of elements in the relation R have it between them
module _ {A B : Type 0} (R : A → A → Type 0) (S : B → B → Type 0) (f : A → List B) (each : (x : A) → Pairwise S (f x)) (between : (x y : A) → R x y → Across S (f x) (f y)) where
  past : (x : A) {l : List A} → All (R x) l → Across S (f x) (flat_map f l)
  unfolding flat_map
  past x all_none = across_none S (f x)
  past x (all_one r rs) = across_append S (between _ _ r) (past x rs)

  pub pairwise_flat_map : (l : List A) → Pairwise R l → Pairwise S (flat_map f l)
  unfolding flat_map
  pairwise_flat_map [] p = tt
  pairwise_flat_map (x ∷ l) p = pairwise_append S (f x) (flat_map f l) (each x) (pairwise_flat_map l p.1) (past x p.0)

-- every other stone has a property that every stone but stone idx has, seen
pub all_others : (P : Other → Type 0) (c : Perspective) (idx k : ℕ) (l : List CapStone)
    → ((i : ℕ) → i < length l → (k + i ≡ idx → ⊥) → P (other c (k + i) (get_or l i no_stone))) → All P (others c idx k l)
unfolding others
all_others P c idx k [] each = all_none
all_others P c idx k (s ∷ l) each =
    all_append
    (all_only P (not (eqb k idx)) (other c k s) (λ t. rw add-zero at (each 0 (omega arith) (λ e. eqb-false k idx (not-true _ t) (rw add-zero at e)))))
    (all_others P c idx (suc k) l (λ i low ne. let e : k + suc i ≡ suc k + i = omega arith in rw e at (each (suc i) (omega arith) (λ q. ne (sym e ∙ q)))))
