-- `blanks` repeats the blank stone. Assumes nothing.
use Rattle.capstones.proofs.blanks.Goals as goal

pub returns : goal.returns
returns c = rw c.blank-none.ensures
