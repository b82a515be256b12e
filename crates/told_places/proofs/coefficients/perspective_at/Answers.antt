-- `perspective_at` reads eight coefficients from a place on. Assumes nothing.
use borrow.Author.Rules.{rules}
use Rattle.told_places.specs.Lent.{perspective_at}
use Rattle.told_places.proofs.coefficients.perspective_at.Goals as goal

pub returns : goal.returns
unfolding perspective_at
returns c = search rules
