-- `grid_size` is document 01's rule; the count is small enough for it. Assumes nothing.
use borrow.Author.Tests.{lt-ltb, le-ltb}
use Rattle.timing.specs.Counted.{grid_size}
use Rattle.timing.proofs.size.grid_size.Goals as goal

pub returns-then-k-lt6 : goal.returns-then-k-lt6
unfolding grid_size
returns-then-k-lt6 c = rw (lt-ltb _ _ c.if-k-lt6.true)

pub returns : goal.returns
unfolding grid_size
returns c = rw (le-ltb _ _ c.if-k-lt6.false)
