-- `blanks` takes the blank stone's centre and perspective. Assumes nothing.
use Rattle.bounded.proofs.held.blanks.Goals as goal

pub returns : goal.returns
returns c = rw c.blank-stone.ensures
