-- `den_at` takes the steps of its definition. Assumes nothing.
use mathlib.Core.Path.{refl}
use lib.Ieee.{of_bits}
use Rattle.geometry.specs.Map.{map_den}
use Rattle.cell_fitness.proofs.cell.den_at.Goals as goal

pub returns : goal.returns
unfolding map_den of_bits
returns c = refl
