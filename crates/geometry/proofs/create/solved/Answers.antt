-- `solved` is the eight coefficients, step by step as its definition. Assumes nothing.
use mathlib.Core.Path.{refl}
use Rattle.geometry.specs.Create.{coefficients}
use Rattle.geometry.proofs.create.solved.Goals as goal

pub returns : goal.returns
unfolding coefficients
returns c = refl
