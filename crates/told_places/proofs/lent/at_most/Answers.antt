-- `at_most` takes the lower of two numbers. Assumes nothing.
use native.Mathlib.Omega.{arith}
use borrow.Author.Tests.{lt-ltb, le-ltb}
use Rattle.told_places.specs.Lent.{at_most}
use Rattle.told_places.proofs.lent.at_most.Goals as goal

pub returns-then-most-v : goal.returns-then-most-v
unfolding at_most
returns-then-most-v c = (rw (lt-ltb _ _ c.if-most-v.true), omega arith)

pub returns : goal.returns
unfolding at_most
returns c = (rw (le-ltb _ _ c.if-most-v.false), c.if-most-v.false)
