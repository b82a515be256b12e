-- `bounds` puts one after the other. Assumes nothing.
use Rattle.report.specs.Lines.{bound_text}
use Rattle.report.proofs.Putting.{puts_then}
use Rattle.report.proofs.lines.bounds.Goals as goal

pub returns : goal.returns
unfolding bound_text
returns c = puts_then c.point-a0.ensures (puts_then c.point-a1.ensures (puts_then c.point-a2.ensures c.point.ensures))
