-- What a fitness means, and how far it is from 0. Definitions alone.
use Rattle.std.specs.Prelude.{ℕ, ◌≤◌, ◌≡◌, ℤ}
use Rattle.refusals.specs.Finding.{Finding, found, refused_by}
use Rattle.refusals.specs.declared.Refusal.TheVariants as refusal
use Rattle.cell_fitness.specs.Score.{extent}
use Rattle.cell_fitness.specs.declared.Fitness.{Fitness}
use Rattle.cell_fitness.specs.declared.Fitness.TheVariants.{Score, Unplaced}

-- an answer in document 01's terms: a score, or 13
abbrev pub meaning : Fitness → Finding ℤ
meaning (Score z) = found z
meaning Unplaced = refused_by refusal.Unplaced

-- an answer means a score, which is no further from 0 than a bound
pub record Scores (score : Finding ℤ) (most : ℕ) (r : Fitness) : Type 0 where
  pub is : meaning r ≡ score
  pub small : extent (meaning r) ≤ most
