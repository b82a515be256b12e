-- `between` compares a number with both ends. Assumes nothing.
use mir.Facts.{to_z-of_z}
use Rattle.told.specs.Points.{between}
use Rattle.told.proofs.place.between.Goals as goal

pub returns-then-low-z : goal.returns-then-low-z
unfolding between
returns-then-low-z c =
    let low = to_z-of_z c.ranges.low in
    let z = to_z-of_z c.ranges.z in
    let high = to_z-of_z c.ranges.high in
    rw (z, high, rw (low, z) at c.if-low-z.true)

pub returns-else-low-z : goal.returns-else-low-z
unfolding between
returns-else-low-z c =
    let low = to_z-of_z c.ranges.low in
    let z = to_z-of_z c.ranges.z in
    rw (low, z, rw (low, z) at c.if-low-z.false)
