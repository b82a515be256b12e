-- `next` goes on along the leg, or turns. Assumes nothing.
use borrow.Author.Tests.{lt-ltb, le-ltb, eq-eqb, ne_eqb}
use Rattle.alignment.specs.Spiral.{turned_to, next_pass}
use Rattle.alignment.proofs.spiral.Pass.next.Goals as goal

pub returns-then-left-gt1 : goal.returns-then-left-gt1
unfolding next_pass
returns-then-left-gt1 c = rw (lt-ltb _ _ c.if-left-gt1.true)

pub returns-then-turned-eq0 : goal.returns-then-turned-eq0
unfolding next_pass turned_to
returns-then-turned-eq0 c = rw (le-ltb _ _ c.if-left-gt1.false, eq-eqb _ _ c.if-turned-eq0.true) c.leg.ensures

pub returns : goal.returns
unfolding next_pass turned_to
returns c = rw (le-ltb _ _ c.if-left-gt1.false, ne_eqb _ _ c.if-turned-eq0.false) c.leg-2.ensures
