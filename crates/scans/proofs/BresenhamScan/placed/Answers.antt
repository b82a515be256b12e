-- `placed` meets its contract: a scan that is `Good` has room for one step in each direction. Assumes nothing.
use borrow.Author.Rules.{rules}
use native.Mathlib.Omega.{arith}
use mathlib.Core.Path.{◌≡◌, ◌∙◌}
use lib.IntN.{◌+ℤ◌}
use mir.Syntax.{w32}
use mir.Val.{to_z, of_z}
use mir.Facts.{to_z-of_z}
use Rattle.sizes.proofs.Size.{read_back}
use Rattle.scans.specs.Scan.{placed_by}
use Rattle.scans.proofs.BresenhamScan.placed.Goals as goal

pub sum-requires : goal.sum-requires
sum-requires c =
    let x : to_z w32 (of_z w32 c.args.self.x) ≡ c.args.self.x = search rules in
    rw (x, to_z-of_z c.ranges.dx) (omega arith)

pub sum-requires-2 : goal.sum-requires-2
sum-requires-2 c =
    let y : to_z w32 (of_z w32 c.args.self.y) ≡ c.args.self.y = search rules in
    rw (y, to_z-of_z c.ranges.dy) (omega arith)

pub overflow_add-result : goal.overflow_add-result
overflow_add-result c = omega arith

pub returns : goal.returns
unfolding placed_by
returns c =
    let x : to_z w32 (of_z w32 c.args.self.x) ≡ c.args.self.x = search rules in
    let x_is : to_z w32 (of_z w32 c.sum.result) ≡ c.args.self.x +ℤ c.args.dx = read_back c.sum.result c.sum.type_inv ∙ rw (x, to_z-of_z c.ranges.dx) at c.sum.ensures in
    let y : to_z w32 (of_z w32 c.args.self.y) ≡ c.args.self.y = search rules in
    let y_is : to_z w32 (of_z w32 c.sum-2.result) ≡ c.args.self.y +ℤ c.args.dy = read_back c.sum-2.result c.sum-2.type_inv ∙ rw (y, to_z-of_z c.ranges.dy) at c.sum-2.ensures in
    let ed : to_z w32 (of_z w32 c.args.self.domstep) ≡ c.args.self.domstep = search rules in
    let en : to_z w32 (of_z w32 c.args.self.nonstep) ≡ c.args.self.nonstep = search rules in
    rw (x_is, y_is, ed, en)
