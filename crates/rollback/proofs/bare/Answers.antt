-- `bare` keeps a byte up to 1 and answers 1 for any other. Assumes nothing.
use borrow.Author.Tests.{le-leb, lt-leb}
use Rattle.rollback.specs.Unpainted.{unpainted}
use Rattle.rollback.proofs.bare.Goals as goal

pub returns-then-byte-le1 : goal.returns-then-byte-le1
unfolding unpainted
returns-then-byte-le1 c = rw (le-leb _ 1 c.if-byte-le1.true)

pub returns : goal.returns
unfolding unpainted
returns c = rw (lt-leb _ 1 c.if-byte-le1.false)
