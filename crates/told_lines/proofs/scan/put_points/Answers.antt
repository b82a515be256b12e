-- `put_points` writes point by point, until the scan is done. Assumes nothing.
use mathlib.Core.Path.{◌≡◌}
use mir.Syntax.{w32}
use mir.Val.{to_z, of_z}
use borrow.Author.Rules.{rules}
use Rattle.told.proofs.Tell.{tell_values}
use Rattle.told_lines.proofs.Scanned.{all_written, two_left, more_written}
use Rattle.told_lines.proofs.scan.put_points.Goals as goal

pub numbers_at-requires : goal.numbers_at-requires
numbers_at-requires c =
    two_left c.loop-p.invariant c.in-Some.ensures.steps (rw c.into_iter-p-iterator.ensures.into_iter_gives c.requires.fact_2)

pub loop-p-preserved : goal.loop-p-preserved
loop-p-preserved c =
    let same_x : to_z w32 (of_z w32 c.in-Some.p.x) ≡ c.in-Some.p.x = search rules in
    let same_y : to_z w32 (of_z w32 c.in-Some.p.y) ≡ c.in-Some.p.y = search rules in
    let stored = rw (same_x, same_y) at c.numbers_at.ensures in
    rw stored (more_written c.loop-p.invariant c.in-Some.ensures.steps (rw c.into_iter-p-iterator.ensures.into_iter_gives c.requires.fact_2))

pub returns : goal.returns
returns c =
    rw (← c.into_iter-p-iterator.ensures.into_iter_gives) (tell_values _ (all_written c.loop-p.invariant c.in-None.ensures.steps))
