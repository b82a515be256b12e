-- `is_within` compares a coordinate with both ends. Assumes nothing.
use mir.Facts.{to_z-of_z}
use Rattle.stated.proofs.Reach.{in_reach}
use Rattle.stated.proofs.is_within.Goals as goal

pub returns-then-z-geminus10000 : goal.returns-then-z-geminus10000
returns-then-z-geminus10000 c =
    let z = to_z-of_z c.ranges.z in
    rw z (rw (rw z at c.if-z-geminus10000.true) at (in_reach c.args.z))

pub returns-else-z-geminus10000 : goal.returns-else-z-geminus10000
returns-else-z-geminus10000 c =
    let z = to_z-of_z c.ranges.z in
    rw c.if-z-geminus10000.false (rw (rw z at c.if-z-geminus10000.false) at (in_reach c.args.z))
