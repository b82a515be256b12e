-- `no_setup` takes the blank stone's centre and perspective. Assumes nothing.
use Rattle.setups.proofs.no_setup.Goals as goal

pub returns : goal.returns
returns c = rw c.blank-stone.ensures
