-- `none` holds no group. Assumes nothing.
use mathlib.Core.Path.{refl}
use Rattle.laid.proofs.Standing.{laid_none}
use Rattle.groupings.specs.Held.{most_groups, no_trio}
use Rattle.groupings.proofs.held.none.Goals as goal

pub returns : goal.returns
returns c = let L = laid_none most_groups no_trio c.args.verdict _ refl in (L.0, L.1, c.no_setups-setups.ensures)
