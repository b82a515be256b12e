-- `unmap_v` is the second coordinate on the grid, step by step as its definition. Assumes nothing.
use mathlib.Core.Path.{refl}
use Rattle.geometry.specs.Unmap.{unmap_v}
use Rattle.geometry.proofs.unmap.unmap_v.Goals as goal

pub returns : goal.returns
unfolding unmap_v
returns c = refl
