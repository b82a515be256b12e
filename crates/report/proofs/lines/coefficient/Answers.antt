-- `coefficient` puts a space, then the number. Assumes nothing.
use Rattle.report.proofs.Putting.{puts_then}
use Rattle.report.proofs.lines.coefficient.Goals as goal

pub returns : goal.returns
returns c = puts_then c.byte-after.ensures c.float.ensures
