-- `shade_row` shades a row column by column. Assumes nothing.
use mathlib.Core.Path.{sym, ◌∙◌}
use native.Mathlib.Omega.{arith}
use lib.ListN.{length, take}
use Rattle.prepare.proofs.Shades.{shading_starts, shading_goes_on, shading_ends}
use Rattle.prepare.proofs.threshold.shade_row.Goals as goal

pub loop-x-preserved : goal.loop-x-preserved
loop-x-preserved c =
    sym (shading_goes_on c.args.s (length c.args.row.now) c.loop-x.row c.args.lefts.now c.args.rights.now c.loop-x.x c.shade.result c.requires.2.left_room c.requires.2.right_room (omega arith) (omega arith) c.shade.ensures)
    ∙ c.loop-x.invariant

pub returns : goal.returns
returns c =
    let n = length c.args.row.now in
    sym (shading_ends c.args.s c.loop-x.row (take n c.args.lefts.now) (take n c.args.rights.now) c.loop-x.x (omega arith))
    ∙ c.loop-x.invariant
    ∙ shading_starts c.args.s c.args.row.now (take n c.args.lefts.now) (take n c.args.rights.now)
