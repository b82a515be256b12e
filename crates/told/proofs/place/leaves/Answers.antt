-- `leaves` compares both coordinates. Assumes nothing.
use mathlib.Core.Path.{◌≡◌}
use mir.Syntax.{w32}
use mir.Val.{to_z, of_z}
use mir.Facts.{to_z-of_z}
use Rattle.told.specs.Points.{leaves}
use borrow.Author.Rules.{rules}
use Rattle.told.proofs.place.leaves.Goals as goal

pub returns-then-between : goal.returns-then-between
unfolding leaves
returns-then-between c =
    let low = to_z-of_z c.ranges.low in
    let high = to_z-of_z c.ranges.high in
    let same_x : to_z w32 (of_z w32 c.args.p.x) ≡ c.args.p.x = search rules in
    let same_y : to_z w32 (of_z w32 c.args.p.y) ≡ c.args.p.y = search rules in
    let x-is = rw (low, same_x, high) at c.between.ensures in
    let y-is = simp (low, same_x, same_y, high) at c.between-then-between.ensures in
    simp (← x-is, ← y-is, c.if-between.true)

pub returns : goal.returns
unfolding leaves
returns c =
    let low = to_z-of_z c.ranges.low in
    let high = to_z-of_z c.ranges.high in
    let same_x : to_z w32 (of_z w32 c.args.p.x) ≡ c.args.p.x = search rules in
    let x-is = rw (low, same_x, high) at c.between.ensures in
    rw (← x-is, c.if-between.false)
