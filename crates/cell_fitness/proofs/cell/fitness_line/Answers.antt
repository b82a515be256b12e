-- `fitness_line` takes one point of a line after the other. Assumes nothing.
use Rattle.cell_fitness.specs.Landed.{line_at}
use Rattle.cell_fitness.proofs.Sums.{scores_three}
use Rattle.cell_fitness.proofs.cell.fitness_line.Goals as goal

pub returns : goal.returns
unfolding line_at
returns c =
    scores_three c.fitness_point-one.ensures c.fitness_point.ensures c.fitness_point-2.ensures c.plus-two.ensures c.plus.ensures
