-- `height_den` is the denominator of the height, step by step as its definition. Assumes nothing.
use mathlib.Core.Path.{refl}
use Rattle.geometry.specs.Create.{height_den}
use Rattle.geometry.proofs.create.height_den.Goals as goal

pub returns : goal.returns
unfolding height_den
returns c = refl
