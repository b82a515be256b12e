-- `row_at` answers the row between the two ends. Assumes nothing.
use Rattle.pieces.specs.Row.{row}
use Rattle.fill.specs.Order.{row_at}
use Rattle.fill.proofs.runs.row_at.Goals as goal

pub returns : goal.returns
unfolding row_at
returns c = λ i. row (c.leftmost-left.ensures i) (c.rightmost-right.ensures i) c.args.y
