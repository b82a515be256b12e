-- `coordinate` puts a space, then the number. Assumes nothing.
use mir.Facts.{to_z-of_z}
use Rattle.report.proofs.Putting.{puts_then}
use Rattle.report.proofs.lines.coordinate.Goals as goal

pub returns : goal.returns
returns c = puts_then c.byte-after.ensures (rw (to_z-of_z c.ranges.z) at c.signed.ensures)
