-- `refused` holds blank pairs alone. Assumes nothing.
use mathlib.Core.Path.{refl}
use Rattle.match_capstones.specs.Answer.{laid_out}
use Rattle.match_capstones.proofs.rank.refused.Goals as goal

pub returns : goal.returns
unfolding laid_out
returns c = record { answer = refl; pairs = refl }
