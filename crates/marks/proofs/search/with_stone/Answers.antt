-- `with_stone` puts a stone behind the others. Assumes nothing.
use mathlib.Core.Path.{refl}
use Rattle.refusals.specs.Limits.{most_stones}
use Rattle.laid.proofs.Standing.{with_one}
use Rattle.capstones.specs.Blank.{no_stone}
use Rattle.marks.proofs.search.with_stone.Goals as goal

pub returns : goal.returns
returns c =
    let L = with_one most_stones no_stone (record { laid = c.requires.0; going = c.requires.1 }) c.args.stone c.requires.2 in
    (L.0, L.1, refl)
