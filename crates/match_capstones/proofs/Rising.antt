-- An insertion on its way: the first sets are in order but for one, which rises to its place. Assumes nothing.
use Prim.Native.Nat.{ℕ, suc, ◌≤◌, ◌<◌}
use native.Mathlib.Decide.{ℕ_discrete}
use native.Mathlib.Omega.{arith}
use mathlib.Core.Path.{◌≡◌, refl, ◌∙◌}
use mathlib.Core.Bool.{true, false}
use mathlib.Core.List.{List}
use mathlib.Core.Logic.{by_cases}
use lib.ListN.{length, take, set, length-set}
use lib.Seq.{get_or-set_same, get_or-set_other, get_or-take, take-set-lt, length-take-le}
use Rattle.match_capstones.specs.Order.{ranked}
use Rattle.match_capstones.specs.declared.NeighborSet.{NeighborSet}
use Rattle.match_capstones.proofs.Before.{once_before}
use Rattle.match_capstones.proofs.Next.{no_set}
use Rattle.match_capstones.proofs.Swap.{sooner, at, swapped, ranked_swapped, ranked_already}

-- up to place i no set ranks before the one ahead of it, but perhaps the set at place j; and the one behind that does not rank before the one ahead of it
pub record Rising (all : List NeighborSet) (i j : ℕ) : Type 0 where
  pub calm : (k : ℕ) → suc k ≤ i → (suc k ≡ j → ⊥) → sooner (at all (suc k)) (at all k) ≡ false
  pub over : (k : ℕ) → suc k ≡ j → suc j ≤ i → sooner (at all (suc j)) (at all k) ≡ false

pub rising_starts : (all : List NeighborSet) → Rising all 0 0
rising_starts all = record { calm = λ k low other. absurd (omega arith); over = λ k e low. absurd (omega arith) }

-- the set at place j stays, and the next one is looked at
pub rising_settles : (all : List NeighborSet) (i j : ℕ) → Rising all i j → ((k : ℕ) → suc k ≡ j → sooner (at all (suc k)) (at all k) ≡ false) → Rising all (suc i) (suc i)
rising_settles all i j w stays = record {
  calm = λ k low other. by_cases (ℕ_discrete (suc k) j) (stays k) (λ ne. w.calm k (omega arith) ne);
  over = λ k e low. absurd (omega arith);
}

-- the set at place k + 1 changes places with the one ahead of it
module _ (all : List NeighborSet) (i k : ℕ) (w : Rising all i (suc k)) (low : suc k < length all) (h : sooner (at all (suc k)) (at all k) ≡ true) where
  ahead : at (swapped all k) k ≡ at all (suc k)
  unfolding swapped
  ahead =
      get_or-set_other (set all k (at all (suc k))) (suc k) k (at all k) no_set (omega arith) ∙ get_or-set_same all k (at all (suc k)) no_set (omega arith)

  behind : at (swapped all k) (suc k) ≡ at all k
  unfolding swapped
  behind = get_or-set_same (set all k (at all (suc k))) (suc k) (at all k) no_set (simp length-set low)

  elsewhere : (n : ℕ) → (n ≡ k → ⊥) → (n ≡ suc k → ⊥) → at (swapped all k) n ≡ at all n
  unfolding swapped
  elsewhere n a b =
      get_or-set_other (set all k (at all (suc k))) (suc k) n (at all k) no_set b ∙ get_or-set_other all k n (at all (suc k)) no_set a

  calm_again : (n : ℕ) → suc n ≤ i → (suc n ≡ k → ⊥) → sooner (at (swapped all k) (suc n)) (at (swapped all k) n) ≡ false
  calm_again n small other = by_cases (ℕ_discrete n k) (λ e. rw e here) (λ a. by_cases (ℕ_discrete n (suc k)) (λ e. rw e (next (omega arith))) (further a))
    where
      here : sooner (at (swapped all k) (suc k)) (at (swapped all k) k) ≡ false
      here = rw (behind, ahead) (once_before (at all (suc k)).score (at all k).score h)

      next : suc (suc k) ≤ i → sooner (at (swapped all k) (suc (suc k))) (at (swapped all k) (suc k)) ≡ false
      next fits = rw (behind, elsewhere (suc (suc k)) (omega arith) (omega arith)) (w.over k refl fits)

      further : (n ≡ k → ⊥) → (n ≡ suc k → ⊥) → sooner (at (swapped all k) (suc n)) (at (swapped all k) n) ≡ false
      further a b = rw (elsewhere n a b, elsewhere (suc n) other (omega arith)) (w.calm n small (omega arith))

  pub rising_moves : Rising (swapped all k) i k
  rising_moves = record {
    calm = calm_again;
    over = λ m e fits. rw (behind, elsewhere m (omega arith) (omega arith), ← e) (w.calm m (omega arith) (omega arith));
  }

-- the same in the first n places of an array, with place k ahead of place j
module _ (all : List NeighborSet) (n i j k : ℕ) (e : j ≡ suc k) (low : j < n) (fits : n ≤ length all) (h : sooner (at all j) (at all k) ≡ true) where
  pub moves : Rising all i j → Rising (set (set all k (at all j)) j (at all k)) i k
  unfolding swapped
  moves w = rw e (rising_moves all i k (rw e at w) (omega arith) (rw e at h))

  pub moves_ranked : ranked (take n (set (set all k (at all j)) j (at all k))) ≡ ranked (take n all)
  unfolding swapped
  moves_ranked =
      let up : suc k < n = omega arith in
      let here : at (take n all) k ≡ at all k = get_or-take n all k no_set (omega arith) in
      let next : at (take n all) (suc k) ≡ at all (suc k) = get_or-take n all (suc k) no_set up in
      let long : length (take n all) ≡ n = length-take-le n all fits in
      rw (e, take-set-lt n (set all k (at all (suc k))) (suc k) (at all k) up, take-set-lt n all k (at all (suc k)) (omega arith), ← here, ← next)
      (ranked_swapped (take n all) k (omega arith) (rw (here, next) (rw e at h)))

-- none is left on its way
pub rising_done : (all : List NeighborSet) (n : ℕ) → n ≤ length all → Rising all n n → ranked (take n all) ≡ take n all
rising_done all n fits w =
    let long : length (take n all) ≡ n = length-take-le n all fits in
    ranked_already (take n all) (λ k low. rw (get_or-take n all (suc k) no_set (omega arith), get_or-take n all k no_set (omega arith)) (w.calm k (omega arith) (omega arith)))
