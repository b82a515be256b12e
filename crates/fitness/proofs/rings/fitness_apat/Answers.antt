-- `fitness_apat` adds up a middle and two rings, the inner one against. Assumes nothing.
use native.Mathlib.Omega.{arith}
use Rattle.fitness.proofs.Shapes.{score_pattern}
use Rattle.fitness.proofs.rings.fitness_apat.Goals as goal

pub returns : goal.returns
returns c =
    record {
      is = rw (c.plus.ensures.is, c.minus.ensures.is, c.fitness_ring-outer.ensures.is, c.fitness_ring-inner.ensures.is, c.fitness_cell-middle.ensures.is, score_pattern);
      small = omega arith;
    }
