-- `is_suited` compares the numbers, then the sizes. Assumes nothing.
use borrow.Author.Tests.{eq-eqb, ne_eqb}
use Rattle.marks.specs.Ring.{suits}
use Rattle.marks.proofs.ring.is_suited.Goals as goal

pub returns-then-outer-inner : goal.returns-then-outer-inner
unfolding suits
returns-then-outer-inner c = rw (eq-eqb _ _ c.if-outer-inner.true)

pub returns : goal.returns
unfolding suits
returns c = rw (ne_eqb _ _ c.if-outer-inner.false) c.is_ring_like.ensures
