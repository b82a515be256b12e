-- `is_within` compares with the limit, and with its opposite. Assumes nothing.
use Rattle.placed.specs.Tame.{within}
use Rattle.placed.proofs.is_within.Goals as goal

pub returns-then-x-limit : goal.returns-then-x-limit
unfolding within
returns-then-x-limit c = rw c.if-x-limit.true

pub returns-else-x-limit : goal.returns-else-x-limit
unfolding within
returns-else-x-limit c = rw c.if-x-limit.false
