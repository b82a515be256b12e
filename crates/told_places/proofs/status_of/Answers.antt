-- `status_of` tells a verdict by its number. Assumes nothing.
use Rattle.told_places.specs.Values.{status_of}
use Rattle.told_places.proofs.status_of.Goals as goal

pub returns-in-Ok : goal.returns-in-Ok
unfolding status_of
returns-in-Ok c = rw c.in-Ok.is

pub returns-in-Err : goal.returns-in-Err
unfolding status_of
returns-in-Err c = rw c.in-Err.is c.from.ensures
