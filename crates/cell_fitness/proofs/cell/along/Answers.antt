-- `along` tests on which side of 0 and of -1/2 its float lies. Assumes nothing.
use lib.Ieee.{of_bits, neg}
use Rattle.cell_fitness.proofs.Places.{first_place}
use Rattle.cell_fitness.proofs.cell.along.Goals as goal

pub ahead-requires : goal.ahead-requires
unfolding of_bits
ahead-requires c = c.if-q.true

pub returns-then-q : goal.returns-then-q
returns-then-q c = c.ahead.ensures

pub returns-then-q-2 : goal.returns-then-q-2
unfolding of_bits neg
returns-then-q-2 c = first_place _ c.if-q.false c.if-q-2.true

pub behind-requires : goal.behind-requires
unfolding of_bits neg
behind-requires c = c.if-q-2.false

pub returns : goal.returns
returns c = c.behind.ensures
