-- `takes` counts the digits, then looks at the byte. Assumes nothing.
use borrow.Author.Tests.{lt-ltb, le-ltb}
use Rattle.netpbm.specs.Machine.{takes}
use Rattle.netpbm.proofs.Number.takes.Goals as goal

pub returns-then-self-ge5 : goal.returns-then-self-ge5
unfolding takes
returns-then-self-ge5 c = rw (le-ltb _ _ c.if-self-ge5.true)

pub returns : goal.returns
unfolding takes
returns c = rw (lt-ltb _ _ c.if-self-ge5.false, c.is_digit.ensures)
