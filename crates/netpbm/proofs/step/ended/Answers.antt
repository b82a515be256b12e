-- `ended` counts the pixels. Assumes nothing.
use borrow.Author.Tests.{eq-eqb, ne_eqb}
use Rattle.netpbm.specs.Machine.{ended_at}
use Rattle.netpbm.proofs.step.ended.Goals as goal

pub returns-then-body : goal.returns-then-body
unfolding ended_at
returns-then-body c = rw (eq-eqb _ _ c.if-body.true)

pub returns-else-body : goal.returns-else-body
unfolding ended_at
returns-else-body c = rw (ne_eqb _ _ c.if-body.false)
