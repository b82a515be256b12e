-- `moved` adds the pass's way to each coordinate. Assumes nothing.
use native.Mathlib.Omega.{arith}
use mathlib.Core.Path.{◌≡◌, ◌∙◌}
use lib.IntN.{◌+ℤ◌}
use mir.Syntax.{w32}
use mir.Val.{to_z, of_z}
use borrow.Author.Rules.{rules}
use Rattle.sizes.proofs.Size.{read_back}
use Rattle.alignment.specs.Spiral.{way_x, way_y, moved}
use Rattle.alignment.proofs.Passes.{way_x_one, way_y_one}
use Rattle.alignment.proofs.spiral.Pass.moved.Goals as goal

pub sum-x-requires : goal.sum-x-requires
sum-x-requires c =
    let x : to_z w32 (of_z w32 c.args.at.x) ≡ c.args.at.x = search rules in
    let across : to_z w32 (of_z w32 c.way_x.result) ≡ way_x c.args.self.dir = read_back c.way_x.result c.way_x.type_inv ∙ c.way_x.ensures in
    rw (x, across) (omega (arith, c.requires.0, way_x_one c.args.self.dir))

pub sum-y-requires : goal.sum-y-requires
sum-y-requires c =
    let y : to_z w32 (of_z w32 c.args.at.y) ≡ c.args.at.y = search rules in
    let down : to_z w32 (of_z w32 c.way_y.result) ≡ way_y c.args.self.dir = read_back c.way_y.result c.way_y.type_inv ∙ c.way_y.ensures in
    rw (y, down) (omega (arith, c.requires.1, way_y_one c.args.self.dir))

pub returns : goal.returns
unfolding moved
returns c =
    let x : to_z w32 (of_z w32 c.args.at.x) ≡ c.args.at.x = search rules in
    let across : to_z w32 (of_z w32 c.way_x.result) ≡ way_x c.args.self.dir = read_back c.way_x.result c.way_x.type_inv ∙ c.way_x.ensures in
    let x_is : to_z w32 (of_z w32 c.sum-x.result) ≡ c.args.at.x +ℤ way_x c.args.self.dir = read_back c.sum-x.result c.sum-x.type_inv ∙ rw (x, across) at c.sum-x.ensures in
    let y : to_z w32 (of_z w32 c.args.at.y) ≡ c.args.at.y = search rules in
    let down : to_z w32 (of_z w32 c.way_y.result) ≡ way_y c.args.self.dir = read_back c.way_y.result c.way_y.type_inv ∙ c.way_y.ensures in
    let y_is : to_z w32 (of_z w32 c.sum-y.result) ≡ c.args.at.y +ℤ way_y c.args.self.dir = read_back c.sum-y.result c.sum-y.type_inv ∙ rw (y, down) at c.sum-y.ensures in
    rw (x_is, y_is)
