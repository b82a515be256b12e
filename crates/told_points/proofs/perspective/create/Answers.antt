-- `create` tells the perspective of four corners, once all are there and there are places for it. Assumes nothing.
use Rattle.told_points.specs.Answers.{create_answer}
use Rattle.told.proofs.Tell.{tell_short, tell_enough}
use Rattle.told_points.proofs.perspective.create.Goals as goal

pub returns-then-corners-lt8 : goal.returns-then-corners-lt8
unfolding create_answer
returns-then-corners-lt8 c = tell_short _ _ c.if-corners-lt8.true

pub returns-then-out-lt8 : goal.returns-then-out-lt8
unfolding create_answer
returns-then-out-lt8 c = tell_enough c.if-corners-lt8.false (tell_short _ _ c.if-out-lt8.true)

pub returns : goal.returns
unfolding create_answer
returns c =
    let made = rw (c.create.ensures, c.point_at-p0.ensures, c.point_at-p1.ensures, c.point_at-p2.ensures, c.point_at-p3.ensures) at c.put_sight.ensures in
    tell_enough c.if-corners-lt8.false (tell_enough c.if-out-lt8.false made)
