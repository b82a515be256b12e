-- `is_side` answers whether a number is a side. Assumes nothing.
use native.Mathlib.Omega.{arith}
use borrow.Author.Tests.{le-ltb, lt-ltb}
use Rattle.picture.specs.Sides.{side}
use Rattle.picture.proofs.ladder.is_side.Goals as goal

pub returns-then-n-eq0 : goal.returns-then-n-eq0
unfolding side
returns-then-n-eq0 c = rw (le-ltb 0 c.args.n (omega arith))

pub returns : goal.returns
unfolding side
returns c = rw (lt-ltb 0 c.args.n (omega arith))
