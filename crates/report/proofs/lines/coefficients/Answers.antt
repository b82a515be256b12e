-- `coefficients` puts four and four. Assumes nothing.
use Rattle.report.specs.Lines.{coefficient_text}
use Rattle.report.proofs.Putting.{puts_then}
use Rattle.report.proofs.lines.coefficients.Goals as goal

pub returns : goal.returns
unfolding coefficient_text
returns c = puts_then c.four-after.ensures c.four.ensures
