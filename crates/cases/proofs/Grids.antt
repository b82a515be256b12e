-- The examples of grid sizes, computed. Assumes nothing.
use mathlib.Core.Path.{refl}
use lib.Dec.{lit≤}
use Rattle.version_db.specs.AnnexE.{printed}
use Rattle.timing.specs.Counted.{grid_size}
use Rattle.cases.specs.Case.{AllHold}
use Rattle.cases.specs.Grids.{grids}

pub grids_hold : AllHold grids
unfolding AllHold grids grid_size printed
grids_hold = (refl, (refl, (refl, (refl, (refl, (refl, (refl, (refl, (refl, (refl, (lit≤ tt, tt)))))))))))
