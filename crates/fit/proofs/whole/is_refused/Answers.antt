-- `is_refused` goes by the case. Assumes nothing.
use Rattle.fit.specs.Fit.{is_refusal}
use Rattle.fit.proofs.whole.is_refused.Goals as goal

pub returns-in-Ok-Some : goal.returns-in-Ok-Some
unfolding is_refusal
returns-in-Ok-Some c = rw (c.in-Ok-Some.is, (rw c.in-Ok-Some.is at c.in-Ok-Some.field-0-is))

pub returns-in-Ok-None : goal.returns-in-Ok-None
unfolding is_refusal
returns-in-Ok-None c = rw (c.in-Ok-None.is, (rw c.in-Ok-None.is at c.in-Ok-None.field-0-is))

pub returns-in-Err : goal.returns-in-Err
unfolding is_refusal
returns-in-Err c = rw c.in-Err.is
