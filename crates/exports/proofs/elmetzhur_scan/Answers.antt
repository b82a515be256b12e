-- `elmetzhur_scan` tells what the scan tells. Assumes nothing.
use mir.Facts.{to_z-of_z}
use Rattle.exports.proofs.elmetzhur_scan.Goals as goal

pub returns : goal.returns
returns c =
    rw (to_z-of_z c.ranges.x0, to_z-of_z c.ranges.y0, to_z-of_z c.ranges.x1, to_z-of_z c.ranges.y1) at c.scan.ensures
