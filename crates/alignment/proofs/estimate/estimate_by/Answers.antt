-- `estimate_by` refuses an area above 10,000. Assumes nothing.
use borrow.Author.Tests.{lt-ltb, le-ltb}
use Rattle.alignment.specs.Estimate.{estimate_by}
use Rattle.alignment.proofs.estimate.estimate_by.Goals as goal

pub returns-then-size-gt10000 : goal.returns-then-size-gt10000
unfolding estimate_by
returns-then-size-gt10000 c = rw (← c.area-size.ensures, lt-ltb _ _ c.if-size-gt10000.true)

pub returns : goal.returns
unfolding estimate_by
returns c = rw (← c.area-size.ensures, le-ltb _ _ c.if-size-gt10000.false)
