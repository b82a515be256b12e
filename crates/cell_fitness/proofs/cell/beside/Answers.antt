-- `beside` asks whether either place is none. Assumes nothing.
use native.Mathlib.Omega.{arith}
use Rattle.cell_fitness.specs.Score.{extent}
use Rattle.cell_fitness.proofs.Shown.{nowhere_across, nowhere_down, beside_it}
use Rattle.cell_fitness.proofs.cell.beside.Goals as goal

pub returns-then-x-gt2147483648 : goal.returns-then-x-gt2147483648
unfolding extent
returns-then-x-gt2147483648 c = record { is = nowhere_across _ _ c.if-x-gt2147483648.true; small = omega arith }

pub returns-then-y-gt2147483648 : goal.returns-then-y-gt2147483648
unfolding extent
returns-then-y-gt2147483648 c = record { is = nowhere_down _ _ c.if-x-gt2147483648.false c.if-y-gt2147483648.true; small = omega arith }

pub returns : goal.returns
unfolding extent
returns c = record { is = beside_it _ _ c.if-x-gt2147483648.false c.if-y-gt2147483648.false; small = omega arith }
