-- `located` puts the size, which is a byte, beside the perspective. Assumes nothing.
use mathlib.Core.Path.{refl}
use Rattle.grids.specs.Grid.{grid_of}
use Rattle.grids.proofs.located.Goals as goal

pub returns : goal.returns
unfolding grid_of
returns c = refl
