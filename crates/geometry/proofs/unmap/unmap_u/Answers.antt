-- `unmap_u` is the first coordinate on the grid, step by step as its definition. Assumes nothing.
use mathlib.Core.Path.{refl}
use Rattle.geometry.specs.Unmap.{unmap_u}
use Rattle.geometry.proofs.unmap.unmap_u.Goals as goal

pub returns : goal.returns
unfolding unmap_u
returns c = refl
