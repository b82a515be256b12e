-- `start` meets its contract: its distances are small enough to have a size. Assumes nothing.
use borrow.Author.Rules.{rules}
use native.Mathlib.Omega.{arith}
use mathlib.Core.Path.{◌≡◌, ◌∙◌}
use mir.Syntax.{w32}
use mir.Val.{to_z, of_z}
use mir.Facts.{to_z-of_z}
use Rattle.sizes.proofs.Size.{read_back}
use Rattle.scans.specs.Scan.{start_of}
use Rattle.scans.proofs.BresenhamScan.start.Goals as goal

pub unsigned_abs-far-requires : goal.unsigned_abs-far-requires
unsigned_abs-far-requires c = rw (to_z-of_z c.ranges.lead) (omega arith)

pub unsigned_abs-near-requires : goal.unsigned_abs-near-requires
unsigned_abs-near-requires c = rw (to_z-of_z c.ranges.side) (omega arith)

pub returns : goal.returns
unfolding start_of
returns c =
    let x : to_z w32 (of_z w32 c.args.from.x) ≡ c.args.from.x = search rules in
    let y : to_z w32 (of_z w32 c.args.from.y) ≡ c.args.from.y = search rules in
    let dom = read_back c.way-dom.result c.way-dom.type_inv ∙ c.way-dom.ensures in
    let non = read_back c.way-non.result c.way-non.type_inv ∙ c.way-non.ensures in
    simp (x, y, dom, non, c.unsigned_abs-far.ensures, c.unsigned_abs-near.ensures, to_z-of_z c.ranges.lead, to_z-of_z c.ranges.side)
