-- `minus` adds the opposite. Assumes nothing.
use native.Mathlib.Omega.{arith}
use Rattle.cell_fitness.proofs.Fitness.minus.Goals as goal

pub returns : goal.returns
returns c = record { is = rw (c.plus.ensures.is, c.opposite.ensures.is); small = omega arith }
