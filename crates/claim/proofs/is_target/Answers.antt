-- `is_target` answers whether a byte is 2, 3 or 4. Assumes nothing.
use borrow.Author.Tests.{le-leb, lt-leb}
use Rattle.claim.proofs.is_target.Goals as goal

pub returns-then-target-lt2 : goal.returns-then-target-lt2
returns-then-target-lt2 c = rw (lt-leb _ _ c.if-target-lt2.true)

pub returns : goal.returns
returns c = rw (le-leb _ _ c.if-target-lt2.false)
