-- `map` tells where a point of the grid lies, once the coefficients and two places are there. Assumes nothing.
use Rattle.told_points.specs.Answers.{map_answer}
use Rattle.told.proofs.Tell.{tell_short, tell_enough}
use Rattle.told_points.proofs.perspective.map.Goals as goal

pub returns-then-c-lt8 : goal.returns-then-c-lt8
unfolding map_answer
returns-then-c-lt8 c = tell_short _ _ c.if-c-lt8.true

pub returns-then-out-lt2 : goal.returns-then-out-lt2
unfolding map_answer
returns-then-out-lt2 c = tell_enough c.if-c-lt8.false (tell_short _ _ c.if-out-lt2.true)

pub returns : goal.returns
unfolding map_answer
returns c =
    let told = rw (c.map.ensures, c.perspective_at.ensures) at c.put_spot.ensures in
    tell_enough c.if-c-lt8.false (tell_enough c.if-out-lt2.false told)
