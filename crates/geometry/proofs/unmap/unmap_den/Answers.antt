-- `unmap_den` is the denominator of an unmapped point, step by step as its definition. Assumes nothing.
use mathlib.Core.Path.{refl}
use Rattle.geometry.specs.Unmap.{unmap_den}
use Rattle.geometry.proofs.unmap.unmap_den.Goals as goal

pub returns : goal.returns
unfolding unmap_den
returns c = refl
