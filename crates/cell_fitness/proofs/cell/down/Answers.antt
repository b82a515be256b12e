-- `down` takes the steps of its definition. Assumes nothing.
use Rattle.geometry.specs.Map.{map_y}
use Rattle.cell_fitness.proofs.cell.down.Goals as goal

pub returns : goal.returns
unfolding map_y
returns c = rw c.den_at-den.ensures
