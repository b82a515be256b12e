-- `scaled` multiplies each coefficient. Assumes nothing.
use mathlib.Core.Path.{refl}
use Rattle.refine.specs.Adjust.{scaled}
use Rattle.refine.proofs.adjust.scaled.Goals as goal

pub returns : goal.returns
unfolding scaled
returns c = refl
