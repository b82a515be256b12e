-- `entry_inside` is the test of one seed. Assumes nothing.
use borrow.Author.Tests.{lt-ltb, le-ltb}
use Rattle.table.proofs.sound.entry_inside.Goals as goal

pub returns-then-x-width : goal.returns-then-x-width
returns-then-x-width c = rw (le-ltb _ _ c.if-x-width.true)

pub returns : goal.returns
returns c = rw (lt-ltb _ _ c.if-x-width.false)
