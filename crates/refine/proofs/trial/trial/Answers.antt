-- `trial` goes on from the best so far, and stays refused. Assumes nothing.
use Rattle.refine.specs.Refine.{trial}
use Rattle.refine.proofs.trial.trial.Goals as goal

pub returns-in_err-earlier : goal.returns-in_err-earlier
unfolding trial
returns-in_err-earlier c = rw (c.from_residual.ensures, c.in_err-earlier.was)
