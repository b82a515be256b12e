-- `is_unlisted` is the test of refusal 10. Assumes nothing.
use borrow.Author.Tests.{le-leb, lt-leb}
use Rattle.regions.specs.Tests.{unlisted}
use Rattle.regions.proofs.ladder.is_unlisted.Goals as goal

pub returns-then-byte-lt5 : goal.returns-then-byte-lt5
unfolding unlisted
returns-then-byte-lt5 c = rw (lt-leb 5 _ c.if-byte-lt5.true)

pub returns : goal.returns
unfolding unlisted
returns c = rw (le-leb 5 _ c.if-byte-lt5.false)
