-- Two answers that the contract of `fitness_all` allows coincide. Assumes nothing.
use Prim.Native.Nat.{ℕ}
use mathlib.Core.Path.{◌≡◌, refl, sym, ◌∙◌}
use lib.IntN.{ℤ}
use Rattle.refusals.specs.Finding.{Finding}
use Rattle.cell_fitness.specs.Scores.{meaning, Scores}
use Rattle.cell_fitness.specs.declared.Fitness.{Fitness}
use Rattle.cell_fitness.specs.declared.Fitness.TheVariants.{Score, Unplaced}

pub meaning_only : (a b : Fitness) → meaning a ≡ meaning b → a ≡ b
meaning_only (Score x) (Score y) e = cc
meaning_only (Score x) Unplaced e = cc
meaning_only Unplaced (Score y) e = cc
meaning_only Unplaced Unplaced e = refl

pub fitness_only : (a b : Fitness) (score : Finding ℤ) (most : ℕ) → Scores score most a → Scores score most b → a ≡ b
fitness_only a b score most p q = meaning_only a b (p.is ∙ sym q.is)
