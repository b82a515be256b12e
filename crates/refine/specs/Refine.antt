-- Refinement: document 01, "five passes of sixteen trials, kept only when the score is strictly higher". What is tried in which order is taken from the Rust, `jiggle_perspective`. Definitions alone.
use Rattle.std.specs.Prelude.{ℕ, zero, suc, cond, List, ℤ, Option, Some, None}
use Rattle.std.specs.Int.Signed.{lt_z}
use Rattle.refusals.specs.Finding.{Finding, found, refused, refused_by}
use Rattle.refusals.specs.declared.Refusal.TheVariants as refusal
use Rattle.geometry.specs.declared.Perspective.{Perspective}
use Rattle.cell_fitness.specs.Seen.{ratio}
use Rattle.fitness.specs.Fitness.{fitness_of}
use Rattle.refine.specs.Adjust.{scaled, adjustments, adjusted}
use Rattle.refine.specs.declared.Refined.{Refined}

-- an answer in document 01's terms: a perspective and its score, or 13
abbrev pub meaning : Option Refined → Finding Refined
meaning (Some r) = found r
meaning None = refused_by refusal.Unplaced

-- a perspective with its score
unfoldable pub scored : Perspective → Finding ℤ → Finding Refined
scored c (found s) = found (record { c = c; score = s })
scored c (refused n) = refused n

-- of the best so far and another, the one to go on with: the other only where its score is strictly higher
unfoldable pub better : Refined → Refined → Refined
better best other = cond (lt_z best.score other.score) other best

-- the same, where either may be refused
unfoldable pub judged : Refined → Finding Refined → Finding Refined
judged best (found other) = found (better best other)
judged best (refused n) = refused n

module _ (score : Perspective → Finding ℤ) where
  -- trial i of a pass that adjusts by these steps
  unfoldable pub trial : Perspective → ℕ → Finding Refined → Finding Refined
  trial steps i (found best) = judged best (scored (adjusted steps best.c i) (score (adjusted steps best.c i)))
  trial steps i (refused n) = refused n

  -- the first n trials of the pass
  unfoldable pub trials : Perspective → ℕ → Finding Refined → Finding Refined
  trials steps zero best = best
  trials steps (suc n) best = trial steps n (trials steps n best)

  -- the first n passes
  unfoldable pub passes : Perspective → ℕ → Finding Refined → Finding Refined
  passes steps zero best = best
  passes steps (suc n) best = trials (adjustments steps n) 16 (passes steps n best)

  -- refinement: five passes, and adjustments that start at 0.02 of each coefficient
  unfoldable pub refined : Perspective → Finding Refined
  refined c = passes (scaled c (ratio 2 100)) 5 (scored c (score c))

-- refinement by fitness, for a grid with so many cells along a side
abbrev pub refined_of : List ℕ → ℕ → ℕ → ℕ → Perspective → Finding Refined
refined_of pic width height size c = refined (fitness_of pic width height size) c
