-- `is_sound` goes by the verdict. Assumes nothing.
use Rattle.laid.specs.Laid.{goes}
use Rattle.laid.proofs.is_sound.Goals as goal

pub returns-in-Ok : goal.returns-in-Ok
unfolding goes
returns-in-Ok c = rw c.in-Ok.is

pub returns-in-Err : goal.returns-in-Err
unfolding goes
returns-in-Err c = rw c.in-Err.is
