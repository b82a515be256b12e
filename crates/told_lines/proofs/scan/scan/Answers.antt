-- `scan` tells the points of the scan between two ends. Assumes nothing.
use mir.Facts.{to_z-of_z}
use Rattle.told_lines.proofs.scan.scan.Goals as goal

pub returns : goal.returns
returns c =
    rw (to_z-of_z c.ranges.x0, to_z-of_z c.ranges.y0, to_z-of_z c.ranges.x1, to_z-of_z c.ranges.y1) at c.put_scan.ensures
