-- `fitness_sides` adds up four cells, one on each side. Assumes nothing.
use native.Mathlib.Omega.{arith}
use Rattle.fitness.proofs.Totals.{score_four}
use Rattle.fitness.proofs.rings.fitness_sides.Goals as goal

pub returns : goal.returns
returns c =
    record {
      is = rw (c.plus-3.ensures.is, c.plus-2.ensures.is, c.plus.ensures.is, c.fitness_cell-below.ensures.is, c.fitness_cell-right.ensures.is, c.fitness_cell-left.ensures.is, c.fitness_cell-above.ensures.is, score_four);
      small = omega arith;
    }
