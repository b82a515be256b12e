-- `age_at` reads a number, held to what a byte holds. Assumes nothing.
use Rattle.told_places.specs.Lent.{age_at}
use Rattle.told_places.proofs.lent.age_at.Goals as goal

pub returns : goal.returns
unfolding age_at
returns c = c.at_most-age.ensures.0
