-- `with_table` changes no grid. Assumes nothing.
use mathlib.Core.Path.{refl}
use Rattle.laid.proofs.Standing.{with_none}
use Rattle.groupings.specs.Held.{most_groups}
use Rattle.locations.specs.Held.{no_location}
use Rattle.locations.proofs.held.with_table.Goals as goal

pub returns : goal.returns
returns c = let L = with_none most_groups no_location c.requires in (L.0, L.1, refl, refl)
