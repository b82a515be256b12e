-- `none` holds none. Assumes nothing.
use mathlib.Core.Path.{refl}
use Rattle.laid.proofs.Standing.{laid_none}
use Rattle.groupings.specs.Held.{most_groups}
use Rattle.locations.specs.Held.{no_location}
use Rattle.locations.proofs.held.none.Goals as goal

pub returns : goal.returns
returns c = let L = laid_none most_groups no_location c.args.verdict _ c.blanks-all.ensures in (L.0, L.1, refl, refl)
