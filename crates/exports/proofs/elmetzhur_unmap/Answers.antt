-- `elmetzhur_unmap` tells what `unmap` tells. Assumes nothing.
use mir.Facts.{to_z-of_z}
use Rattle.exports.proofs.elmetzhur_unmap.Goals as goal

pub returns : goal.returns
returns c =
    rw (to_z-of_z c.ranges.x, to_z-of_z c.ranges.y) at c.unmap.ensures
