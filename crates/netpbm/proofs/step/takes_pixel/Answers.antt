-- `takes_pixel` counts the pixels, then looks at the byte. Assumes nothing.
use borrow.Author.Tests.{lt-ltb, le-ltb}
use Rattle.netpbm.specs.Machine.{takes_pixel}
use Rattle.netpbm.proofs.step.takes_pixel.Goals as goal

pub returns-then-body : goal.returns-then-body
unfolding takes_pixel
returns-then-body c = rw (le-ltb _ _ c.if-body.true)

pub returns : goal.returns
unfolding takes_pixel
returns c = rw (lt-ltb _ _ c.if-body.false, c.is_bit.ensures)
