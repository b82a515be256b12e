-- `way` meets its contract, by the sign that the test shows. Assumes nothing.
use mir.Facts.{to_z-of_z}
use Rattle.scans.proofs.Direction.{way_below, way_from}
use Rattle.scans.proofs.way.Goals as goal

pub returns-then-z-lt0 : goal.returns-then-z-lt0
returns-then-z-lt0 c = way_below _ (rw (to_z-of_z c.ranges.z) at c.if-z-lt0.true)

pub returns : goal.returns
returns c = way_from _ (rw (to_z-of_z c.ranges.z) at c.if-z-lt0.false)
