-- `taken` answers the lesser of n and 64. Assumes nothing.
use borrow.Author.Tests.{lt-ltb, le-ltb}
use Rattle.neighbors.specs.Most.{fewer}
use Rattle.neighbors.proofs.taken.Goals as goal

pub returns-then-n-lt64 : goal.returns-then-n-lt64
unfolding fewer
returns-then-n-lt64 c = rw (lt-ltb _ _ c.if-n-lt64.true)

pub returns-else-n-lt64 : goal.returns-else-n-lt64
unfolding fewer
returns-else-n-lt64 c = rw (le-ltb _ _ c.if-n-lt64.false)
