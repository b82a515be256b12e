-- Refinement is a function of the scores alone, and so of the perspective at the start, the size, the sides and which pixels are white; and it refuses as a score does. Assumes nothing.
use Prim.Native.Nat.{ℕ, zero, suc}
use mathlib.Core.Path.{◌≡◌, refl}
use mathlib.Core.List.{List}
use lib.IntN.{ℤ}
use Rattle.refusals.specs.Finding.{Finding, found, refused}
use Rattle.geometry.specs.declared.Perspective.{Perspective}
use Rattle.cell_fitness.specs.Seen.{ratio}
use Rattle.fitness.specs.Fitness.{SameWhite, fitness_of}
use Rattle.fitness.proofs.White.{fitness_white}
use Rattle.refine.specs.Adjust.{scaled, adjustments, adjusted}
use Rattle.refine.specs.Refine.{scored, trial, trials, passes, refined, refined_of}
use Rattle.refine.specs.declared.Refined.{Refined}

module _ (f g : Perspective → Finding ℤ) (alike : (c : Perspective) → f c ≡ g c) where
  trial_alike : (steps : Perspective) (i : ℕ) (best : Finding Refined) → trial f steps i best ≡ trial g steps i best
  unfolding trial
  trial_alike steps i (found best) = rw (alike (adjusted steps best.c i))
  trial_alike steps i (refused n) = refl

  trials_alike : (steps : Perspective) (n : ℕ) (best : Finding Refined) → trials f steps n best ≡ trials g steps n best
  unfolding trials
  trials_alike steps zero best = refl
  trials_alike steps (suc n) best = rw (trials_alike steps n best) (trial_alike steps n (trials g steps n best))

  passes_alike : (steps : Perspective) (n : ℕ) (best : Finding Refined) → passes f steps n best ≡ passes g steps n best
  unfolding passes
  passes_alike steps zero best = refl
  passes_alike steps (suc n) best = rw (passes_alike steps n best) (trials_alike (adjustments steps n) 16 (passes g steps n best))

  pub refined_alike : (c : Perspective) → refined f c ≡ refined g c
  unfolding refined
  refined_alike c = rw (alike c) (passes_alike (scaled c (ratio 2 100)) 5 (scored c (g c)))

pub refined_white : (p q : List ℕ) (width height : ℕ) → SameWhite width height p q → (size : ℕ) (c : Perspective) → refined_of p width height size c ≡ refined_of q width height size c
refined_white p q width height white size c =
    refined_alike (fitness_of p width height size) (fitness_of q width height size) (λ c. fitness_white p q width height white c size) c
