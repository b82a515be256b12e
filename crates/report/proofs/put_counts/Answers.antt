-- `put_counts` puts one line after the other. Assumes nothing.
use Rattle.report.specs.Lines.{count_lines}
use Rattle.report.proofs.Putting.{puts_then}
use Rattle.report.proofs.put_counts.Goals as goal

pub returns : goal.returns
unfolding count_lines
returns c = puts_then c.count-after.ensures c.count.ensures
