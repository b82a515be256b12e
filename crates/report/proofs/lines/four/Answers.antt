-- `four` puts one after the other. Assumes nothing.
use Rattle.report.specs.Lines.{four_text}
use Rattle.report.proofs.Putting.{puts_then}
use Rattle.report.proofs.lines.four.Goals as goal

pub returns : goal.returns
unfolding four_text
returns c = puts_then c.coefficient-a0.ensures (puts_then c.coefficient-a1.ensures (puts_then c.coefficient-a2.ensures c.coefficient.ensures))
