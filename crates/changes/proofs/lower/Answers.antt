-- `lower` is `with` of one coefficient and one rounded step. Assumes nothing.
use Rattle.changes.specs.Change.{lowered}
use Rattle.changes.proofs.lower.Goals as goal

pub returns : goal.returns
unfolding lowered
returns c = rw (c.with.ensures, c.coefficient-old.ensures)
