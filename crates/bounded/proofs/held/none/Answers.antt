-- `none` holds none. Assumes nothing.
use mathlib.Core.Path.{refl}
use Rattle.laid.proofs.Standing.{laid_none}
use Rattle.groupings.specs.Held.{most_groups}
use Rattle.bounded.specs.Held.{no_grid}
use Rattle.std.specs.Prelude.{Ok}
use Rattle.bounded.proofs.held.none.Goals as goal

pub returns : goal.returns
returns c = let L = laid_none most_groups no_grid (Ok tt) _ c.blanks.ensures in (refl, L.1, refl)
