-- `threshold_row` runs both averages along a row and shades it by what is kept. Assumes nothing.
use mathlib.Core.Path.{◌∙◌}
use native.Mathlib.Omega.{arith}
use Rattle.prepare.specs.Run.{Columns}
use Rattle.prepare.proofs.Bounds.{Low, kept_columns, kept_shades}
use Rattle.prepare.proofs.threshold.threshold_row.Goals as goal

pub shade_row-requires : goal.shade_row-requires
shade_row-requires c =
    let bytes : Low 255 c.args.row.now = λ i. omega (arith, c.slice_known-1.given i) in
    let columns : Columns c.args.row.now c.run-ends.new.lefts c.run-ends.new.rights = kept_columns c.args.s c.args.left c.args.right c.args.row.now c.run-ends.new.lefts c.run-ends.new.rights c.run-ends.ensures.1 c.requires.some c.requires.few c.requires.left_low c.requires.right_low (bytes) (omega arith) (omega arith) in
    (c.requires.some, c.requires.few, columns)

pub returns : goal.returns
returns c =
    (c.run-ends.ensures.0, c.shade_row.ensures ∙ kept_shades c.args.s c.args.left c.args.right c.args.row.now c.run-ends.new.lefts c.run-ends.new.rights c.run-ends.ensures.1)
