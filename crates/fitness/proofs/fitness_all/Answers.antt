-- `fitness_all` adds up the parts of a grid. Assumes nothing.
use native.Mathlib.Omega.{arith}
use Rattle.fitness.proofs.Shapes.{score_expected}
use Rattle.fitness.proofs.fitness_all.Goals as goal

pub returns : goal.returns
returns c =
    record {
      is = rw (c.plus-5.ensures.is, c.plus-4.ensures.is, c.plus-3.ensures.is, c.plus-2.ensures.is, c.plus.ensures.is, c.fitness_columns-columns.ensures.is, c.fitness_edges-edges.ensures.is, c.fitness_capstone-below.ensures.is, c.fitness_capstone-right.ensures.is, c.fitness_capstone-first.ensures.is, c.fitness_timing-timing.ensures.is, score_expected);
      small = omega arith;
    }
