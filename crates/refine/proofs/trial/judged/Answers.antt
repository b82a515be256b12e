-- `judged` keeps the better of two, and refuses where the other is refused. Assumes nothing.
use Rattle.refine.specs.Refine.{judged}
use Rattle.refine.proofs.trial.judged.Goals as goal

pub returns-in_err-other : goal.returns-in_err-other
unfolding judged
returns-in_err-other c = rw (c.from_residual.ensures, c.in_err-other.was)

pub returns : goal.returns
unfolding judged
returns c = rw (c.in_ok-other.was, c.better.ensures)
