-- `fitness_crossing` adds up two cells, for where they are expected dark and against where they are expected light. Assumes nothing.
use native.Mathlib.Omega.{arith}
use borrow.Author.Tests.{eq-eqb, ne_eqb}
use Rattle.cell_fitness.proofs.Sums.{opposite_plus}
use Rattle.fitness.proofs.Totals.{score_two}
use Rattle.fitness.proofs.timing.fitness_crossing.Goals as goal

pub returns-then-k-eq0 : goal.returns-then-k-eq0
returns-then-k-eq0 c =
    record {
      is = rw (c.plus.ensures.is, c.fitness_cell-down.ensures.is, c.fitness_cell-across.ensures.is, score_two, eq-eqb _ 0 c.if-k-eq0.true);
      small = omega arith;
    }

pub returns : goal.returns
returns c =
    record {
      is = rw (c.opposite.ensures.is, c.plus-2.ensures.is, c.fitness_cell-down.ensures.is, c.fitness_cell-across.ensures.is, opposite_plus, score_two, ne_eqb _ 0 c.if-k-eq0.false);
      small = omega arith;
    }
