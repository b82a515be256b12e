-- `with_group` puts a group behind the others. Assumes nothing.
use mathlib.Core.Path.{refl}
use Rattle.laid.proofs.Standing.{with_one}
use Rattle.groupings.specs.Held.{most_groups, no_trio}
use Rattle.groupings.proofs.held.with_group.Goals as goal

pub returns : goal.returns
returns c =
    let L = with_one most_groups no_trio c.requires.0 c.args.t c.requires.1 in
    (L.0, L.1, refl)
