-- `land` takes both coordinates. Assumes nothing.
use Rattle.cell_fitness.specs.Landed.{landed}
use Rattle.cell_fitness.proofs.cell.land.Goals as goal

pub returns : goal.returns
unfolding landed
returns c = rw (c.across-right.ensures, c.down-below.ensures)
