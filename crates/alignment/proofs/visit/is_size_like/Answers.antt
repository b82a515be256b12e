-- `is_size_like` compares with half the estimate and with twice. Assumes nothing.
use borrow.Author.Tests.{le-leb, lt-leb}
use Rattle.alignment.specs.Visit.{size_like}
use Rattle.alignment.proofs.visit.is_size_like.Goals as goal

pub returns-then-pixels-estimate : goal.returns-then-pixels-estimate
unfolding size_like
returns-then-pixels-estimate c = rw (lt-leb _ _ c.if-pixels-estimate.true)

pub returns : goal.returns
unfolding size_like
returns c = rw (le-leb _ _ c.if-pixels-estimate.false)
