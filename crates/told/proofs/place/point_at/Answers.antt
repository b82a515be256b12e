-- `point_at` reads a point from two places. Assumes nothing.
use mathlib.Core.Path.{◌≡◌}
use lib.IntN.{pos}
use lib.ListN.{get_or}
use mir.Syntax.{w32}
use mir.Val.{to_z, of_z}
use Rattle.told.specs.Points.{point_at}
use borrow.Author.Rules.{rules}
use Rattle.told.proofs.place.point_at.Goals as goal

pub returns : goal.returns
unfolding point_at
returns c =
    let x = get_or c.args.numbers.now c.args.i (pos 0) in
    let y = get_or c.args.numbers.now c.args.j (pos 0) in
    let same_x : to_z w32 (of_z w32 x) ≡ x = search rules in
    let same_y : to_z w32 (of_z w32 y) ≡ y = search rules in
    rw (same_x, same_y)
