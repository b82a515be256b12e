-- `raise` is `with` of one coefficient and one rounded step. Assumes nothing.
use Rattle.changes.specs.Change.{raised}
use Rattle.changes.proofs.raise.Goals as goal

pub returns : goal.returns
unfolding raised
returns c = rw (c.with.ensures, c.coefficient-old.ensures)
