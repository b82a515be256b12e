-- `ranks_before` compares two scores, the second of which may be no number. Assumes nothing.
use Rattle.match_capstones.specs.Order.{ranks_before}
use Rattle.match_capstones.proofs.sort.ranks_before.Goals as goal

pub returns-then-a-b : goal.returns-then-a-b
unfolding ranks_before
returns-then-a-b c = rw c.if-a-b.true

pub returns-then-not-is_nan : goal.returns-then-not-is_nan
unfolding ranks_before
returns-then-not-is_nan c =
    rw (c.if-a-b.false, ← c.is_nan.ensures.value, c.if-not-is_nan.true, c.is_nan-then-not-is_nan.ensures.value)

pub returns-else-not-is_nan : goal.returns-else-not-is_nan
unfolding ranks_before
returns-else-not-is_nan c = rw (c.if-a-b.false, ← c.is_nan.ensures.value, c.if-not-is_nan.false)
