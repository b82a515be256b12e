-- Lists made one element at a time: what the next element adds, to the list and to an array that holds it, and how long the list is. Assumes nothing.
use Prim.Native.Nat.{ℕ, suc, ◌+◌, ◌*◌, ◌≤◌, ◌<◌}
use native.Mathlib.Nat.{add-zero, zero-add, suc-add, add-suc, suc-mul}
use native.Mathlib.Numerals.{add-one}
use native.Mathlib.Omega.{arith}
use mathlib.Core.Path.{◌≡◌, refl}
use mathlib.Core.Bool.{Bool, true, false, not}
use mathlib.Core.List.{List, [], ◌∷◌, ◌++◌, append-nil, append_assoc, flat_map}
use lib.Dec.{eqb}
use lib.Ieee.{nan}
use lib.ListN.{length, get_or, take, set, length-append}
use lib.Seq.{take-suc, length-take-le}
use Rattle.geometry.specs.declared.Perspective.{Perspective}
use Rattle.capstones.specs.declared.CapStone.{CapStone}
use Rattle.match_capstones.specs.declared.Neighbor.{Neighbor}
use Rattle.match_capstones.specs.declared.NeighborSet.{NeighborSet}
use Rattle.match_capstones.specs.Arrays.{Holds}
use Rattle.match_capstones.specs.Only.{only}
use Rattle.match_capstones.specs.Neighbors.{other, one_other, others}
use Rattle.match_capstones.proofs.Arrays.{holds_more}

-- what the logic reads past the end of a list of neighbours, and of one of sets
abbrev pub no_neighbor : Neighbor
no_neighbor = record { index = 0; distance = nan }

abbrev pub no_set : NeighborSet
no_set = record { score = nan; h = 0; v = 0 }

module _ {A B : Type 0} (f : A → List B) where
  pub flat_map_append : (a b : List A) → flat_map f (a ++ b) ≡ flat_map f a ++ flat_map f b
  unfolding flat_map
  flat_map_append [] b = refl
  flat_map_append (x ∷ a) b = rw (flat_map_append a b, append_assoc)

  -- one element more
  pub flat_map_next : (l : List A) (i : ℕ) (d : A) → i < length l → flat_map f (take (suc i) l) ≡ flat_map f (take i l) ++ f (get_or l i d)
  unfolding flat_map
  flat_map_next l i d low = rw (take-suc l i d, flat_map_append, append-nil)

  -- where none gives more than k
  pub flat_map_few : (k : ℕ) → ((x : A) → length (f x) ≤ k) → (l : List A) → length (flat_map f l) ≤ length l * k
  unfolding flat_map
  flat_map_few k one [] = omega arith
  flat_map_few k one (x ∷ l) = simp (length-append, suc-mul) (omega (arith, one x, flat_map_few k one l))

-- an array that holds what the first j of a list make behind another list, and what the next one makes
module _ {A B : Type 0} (f : A → List B) {room : ℕ} {all : List B} {n : ℕ} (a : List B) (l : List A) (j : ℕ) (d : A) (h : Holds room all n (a ++ flat_map f (take j l))) (low : j < length l) where
  -- nothing
  pub holds_nothing : f (get_or l j d) ≡ [] → Holds room all n (a ++ flat_map f (take (j + 1) l))
  holds_nothing e = rw (add-one j, flat_map_next f l j d low, e, append-nil) h

  -- one element
  pub holds_one : (x : B) → n < room → f (get_or l j d) ≡ x ∷ [] → Holds room (set all n x) (n + 1) (a ++ flat_map f (take (j + 1) l))
  holds_one x fits e = rw (add-one j, flat_map_next f l j d low, e, ← append_assoc a (flat_map f (take j l)) (x ∷ [])) (holds_more h x fits)

pub only_few : {A : Type 0} (b : Bool) (x : A) → length (only b x) ≤ 1
only_few true x = omega arith
only_few false x = omega arith

module _ (c : Perspective) (idx : ℕ) where
  others_append : (k : ℕ) (a b : List CapStone) → others c idx k (a ++ b) ≡ others c idx k a ++ others c idx (k + length a) b
  unfolding others
  others_append k [] b = rw add-zero
  others_append k (s ∷ a) b = rw (others_append (suc k) a b, append_assoc, suc-add, add-suc)

  -- one stone more
  pub others_next : (l : List CapStone) (i : ℕ) (d : CapStone) → i < length l → others c idx 0 (take (suc i) l) ≡ others c idx 0 (take i l) ++ one_other c idx i (get_or l i d)
  unfolding others
  others_next l i d low =
      rw (take-suc l i d, others_append, append-nil, length-take-le i l (omega arith), zero-add)

  pub others_few : (k : ℕ) (l : List CapStone) → length (others c idx k l) ≤ length l
  unfolding others
  others_few k [] = omega arith
  others_few k (s ∷ l) = simp length-append (omega (arith, only_few (not (eqb k idx)) (other c k s), others_few (suc k) l))
