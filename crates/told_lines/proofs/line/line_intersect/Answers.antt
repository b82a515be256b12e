-- `line_intersect` tells a crossing, once four points and two places are there. Assumes nothing.
use Rattle.told_lines.specs.Answers.{cross_answer}
use Rattle.told.proofs.Tell.{tell_short, tell_enough}
use Rattle.told_lines.proofs.line.line_intersect.Goals as goal

pub returns-then-points-lt8 : goal.returns-then-points-lt8
unfolding cross_answer
returns-then-points-lt8 c = tell_short _ _ c.if-points-lt8.true

pub returns-then-out-lt2 : goal.returns-then-out-lt2
unfolding cross_answer
returns-then-out-lt2 c = tell_enough c.if-points-lt8.false (tell_short _ _ c.if-out-lt2.true)

pub returns : goal.returns
unfolding cross_answer
returns c =
    let told = rw (c.point_at-p0.ensures, c.point_at-p1.ensures, c.point_at-q0.ensures, c.point_at-q1.ensures) at c.put_crossing.ensures in
    tell_enough c.if-points-lt8.false (tell_enough c.if-out-lt2.false told)
