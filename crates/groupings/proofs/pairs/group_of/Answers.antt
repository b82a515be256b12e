-- `group_of` takes the three stones out. Assumes nothing.
use mathlib.Core.Path.{refl}
use Rattle.groupings.proofs.pairs.group_of.Goals as goal

pub returns : goal.returns
returns c = refl
