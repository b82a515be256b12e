-- `fitness_edge` adds up two patterns. Assumes nothing.
use native.Mathlib.Omega.{arith}
use Rattle.fitness.proofs.Totals.{scores_append}
use Rattle.fitness.proofs.alignment.fitness_edge.Goals as goal

pub returns : goal.returns
returns c =
    record {
      is = rw (c.plus.ensures.is, c.fitness_apat.ensures.is, c.fitness_apat-left.ensures.is, scores_append);
      small = omega arith;
    }
