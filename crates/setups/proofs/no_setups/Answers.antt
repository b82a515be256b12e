-- `no_setups` repeats the blank setup. Assumes nothing.
use Rattle.setups.proofs.no_setups.Goals as goal

pub returns : goal.returns
returns c = rw c.no_setup-none.ensures
