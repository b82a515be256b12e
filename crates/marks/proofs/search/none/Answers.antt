-- `none` holds no stone. Assumes nothing.
use mathlib.Core.Path.{refl}
use Rattle.refusals.specs.Limits.{most_stones}
use Rattle.laid.proofs.Standing.{laid_none}
use Rattle.capstones.specs.Blank.{no_stone}
use Rattle.marks.proofs.search.none.Goals as goal

pub returns : goal.returns
returns c = let L = laid_none most_stones no_stone c.args.verdict _ c.blanks-stones.ensures in (L.0, L.1, refl)
