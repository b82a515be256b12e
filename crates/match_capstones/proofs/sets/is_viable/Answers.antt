-- `is_viable` keeps a score below 0.25, and one that is no number. Assumes nothing.
use lib.Ieee.{of_bits}
use Rattle.match_capstones.specs.Scores.{viable}
use Rattle.match_capstones.proofs.sets.is_viable.Goals as goal

pub returns-then-score : goal.returns-then-score
unfolding viable of_bits
returns-then-score c = rw c.if-score.true

pub returns-else-score : goal.returns-else-score
unfolding viable of_bits
returns-else-score c = rw (c.if-score.false, c.is_nan.ensures.value)
