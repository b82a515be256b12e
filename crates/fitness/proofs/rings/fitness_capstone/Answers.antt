-- `fitness_capstone` adds up a middle and three rings, the second against. Assumes nothing.
use native.Mathlib.Omega.{arith}
use Rattle.fitness.proofs.Shapes.{score_mark}
use Rattle.fitness.proofs.rings.fitness_capstone.Goals as goal

pub returns : goal.returns
returns c =
    record {
      is = rw (c.plus-2.ensures.is, c.minus.ensures.is, c.plus.ensures.is, c.fitness_ring-ring.ensures.is, c.fitness_ring-gap.ensures.is, c.fitness_ring-stone.ensures.is, c.fitness_cell-middle.ensures.is, score_mark);
      small = omega arith;
    }
