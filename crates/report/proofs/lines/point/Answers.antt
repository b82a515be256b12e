-- `point` puts x, then y. Assumes nothing.
use mathlib.Core.Path.{◌≡◌}
use mir.Syntax.{w32}
use mir.Val.{to_z, of_z}
use Rattle.report.specs.Lines.{point_text}
use Rattle.report.proofs.Putting.{puts_then}
use borrow.Author.Rules.{rules}
use Rattle.report.proofs.lines.point.Goals as goal

pub returns : goal.returns
unfolding point_text
returns c =
    let x : to_z w32 (of_z w32 c.args.p.x) ≡ c.args.p.x = search rules in
    let y : to_z w32 (of_z w32 c.args.p.y) ≡ c.args.p.y = search rules in
    puts_then (rw x at c.coordinate-after.ensures) (rw y at c.coordinate.ensures)
