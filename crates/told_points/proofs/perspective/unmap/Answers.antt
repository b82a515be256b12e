-- `unmap` tells which point of the grid lies at a place, once the coefficients and two places are there. Assumes nothing.
use mathlib.Core.Path.{◌≡◌}
use mir.Syntax.{w32}
use mir.Val.{to_z, of_z}
use Rattle.told_points.specs.Answers.{unmap_answer, grid_values}
use Rattle.told.proofs.Tell.{tell_short, tell_enough}
use borrow.Author.Rules.{rules}
use Rattle.told_points.proofs.perspective.unmap.Goals as goal

pub returns-then-c-lt8 : goal.returns-then-c-lt8
unfolding unmap_answer
returns-then-c-lt8 c = tell_short _ _ c.if-c-lt8.true

pub returns-then-out-lt2 : goal.returns-then-out-lt2
unfolding unmap_answer
returns-then-out-lt2 c = tell_enough c.if-c-lt8.false (tell_short _ _ c.if-out-lt2.true)

pub returns : goal.returns
unfolding unmap_answer grid_values
returns c =
    let same_x : to_z w32 (of_z w32 c.args.x) ≡ c.args.x = search rules in
    let same_y : to_z w32 (of_z w32 c.args.y) ≡ c.args.y = search rules in
    let told = rw (c.unmap-g.ensures, c.perspective_at.ensures, same_x, same_y) at c.floats.ensures in
    tell_enough c.if-c-lt8.false (tell_enough c.if-out-lt2.false told)
