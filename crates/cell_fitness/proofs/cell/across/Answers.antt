-- `across` takes the steps of its definition. Assumes nothing.
use Rattle.geometry.specs.Map.{map_x}
use Rattle.cell_fitness.proofs.cell.across.Goals as goal

pub returns : goal.returns
unfolding map_x
returns c = rw c.den_at-den.ensures
