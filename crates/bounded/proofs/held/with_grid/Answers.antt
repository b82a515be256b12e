-- `with_grid` puts a grid behind the others. Assumes nothing.
use mathlib.Core.Path.{refl}
use Rattle.laid.specs.Laid.{told}
use Rattle.laid.proofs.Standing.{with_one}
use Rattle.groupings.specs.Held.{most_groups}
use Rattle.bounded.specs.Held.{no_grid}
use Rattle.bounded.proofs.held.with_grid.Goals as goal

pub returns : goal.returns
unfolding told
returns c =
    let L = with_one most_groups no_grid (record { laid = c.requires.0; going = refl }) c.args.grid c.requires.1 in
    (cc, L.1, refl)
