-- `score_of` divides the shorter distance by the longer. Assumes nothing.
use lib.Ieee.{of_bits}
use Rattle.match_capstones.specs.Scores.{score_of}
use Rattle.match_capstones.proofs.Floats.{unsigned}
use Rattle.match_capstones.proofs.sets.score_of.Goals as goal

pub returns-then-h-v : goal.returns-then-h-v
unfolding score_of of_bits
returns-then-h-v c = rw (c.if-h-v.true, c.abs.ensures.value, unsigned)

pub returns-else-h-v : goal.returns-else-h-v
unfolding score_of of_bits
returns-else-h-v c = rw (c.if-h-v.false, c.abs-else-h-v.ensures.value, unsigned)
