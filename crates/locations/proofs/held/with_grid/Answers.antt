-- `with_grid` puts a grid behind the others. Assumes nothing.
use mathlib.Core.Path.{refl}
use Rattle.laid.proofs.Standing.{with_one}
use Rattle.groupings.specs.Held.{most_groups}
use Rattle.locations.specs.Held.{no_location}
use Rattle.locations.proofs.held.with_grid.Goals as goal

pub returns : goal.returns
returns c =
    let L = with_one most_groups no_location c.requires.0 c.args.grid c.requires.1 in
    (L.0, L.1, refl, refl)
