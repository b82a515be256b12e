-- `located` sets the grid up where there is a fourth corner. Assumes nothing.
use Rattle.fit.specs.Fit.{located_by}
use Rattle.fit.proofs.group.located.Goals as goal

pub returns-in-Ok-Some : goal.returns-in-Ok-Some
unfolding located_by
returns-in-Ok-Some c = (rw (c.in-Ok-Some.is, (rw c.in-Ok-Some.is at c.in-Ok-Some.field-0-is)) c.set_up.ensures.0, c.set_up.ensures.1)

pub returns-in-Ok-None : goal.returns-in-Ok-None
unfolding located_by
returns-in-Ok-None c = (rw (c.in-Ok-None.is, (rw c.in-Ok-None.is at c.in-Ok-None.field-0-is)), c.requires.fact_3)

pub returns-in-Err : goal.returns-in-Err
unfolding located_by
returns-in-Err c = (rw c.in-Err.is, c.requires.fact_3)
