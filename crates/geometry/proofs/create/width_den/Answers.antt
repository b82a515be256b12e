-- `width_den` is the denominator of the width, step by step as its definition. Assumes nothing.
use mathlib.Core.Path.{refl}
use Rattle.geometry.specs.Create.{width_den}
use Rattle.geometry.proofs.create.width_den.Goals as goal

pub returns : goal.returns
unfolding width_den
returns c = refl
