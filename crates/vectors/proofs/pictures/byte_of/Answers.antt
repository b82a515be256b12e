-- `byte_of` puts two digits together. Assumes nothing.
use mathlib.Core.Path.{refl}
use Rattle.vectors.specs.Pictures.{byte_of}
use Rattle.vectors.proofs.pictures.byte_of.Goals as goal

pub returns : goal.returns
unfolding byte_of
returns c = refl
