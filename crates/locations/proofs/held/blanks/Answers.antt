-- `blanks` takes the blank stone's perspective. Assumes nothing.
use Rattle.locations.proofs.held.blanks.Goals as goal

pub returns : goal.returns
returns c = rw c.blank-stone.ensures
