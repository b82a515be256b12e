-- `fitness_point` looks at the two places that its point rounds to. Assumes nothing.
use Rattle.cell_fitness.specs.Landed.{point_at}
use Rattle.cell_fitness.proofs.cell.fitness_point.Goals as goal

pub returns : goal.returns
unfolding point_at
returns c = rw (← c.along-x.ensures, ← c.along-y.ensures) c.dark_at.ensures
