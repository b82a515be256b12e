-- `round` tells the nearest whole number, once there is a place for it. Assumes nothing.
use Rattle.told_points.specs.Answers.{round_answer}
use Rattle.told.proofs.Tell.{tell_short, tell_enough}
use Rattle.told_points.proofs.whole.round.Goals as goal

pub returns-then-out-lt1 : goal.returns-then-out-lt1
unfolding round_answer
returns-then-out-lt1 c = tell_short _ _ c.if-out-lt1.true

pub returns : goal.returns
unfolding round_answer
returns c = tell_enough c.if-out-lt1.false (rw c.nearest.ensures at c.put_whole.ensures)
