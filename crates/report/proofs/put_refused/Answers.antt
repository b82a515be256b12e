-- `put_refused` puts the word and the number. Assumes nothing.
use Rattle.report.specs.Lines.{refused_line}
use Rattle.report.proofs.put_refused.Goals as goal

pub returns : goal.returns
unfolding refused_line
returns c = c.count.ensures
