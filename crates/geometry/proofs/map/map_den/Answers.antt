-- `map_den` is the denominator of a mapped point, step by step as its definition. Assumes nothing.
use mathlib.Core.Path.{refl}
use lib.Ieee.{of_bits}
use Rattle.geometry.specs.Map.{map_den}
use Rattle.geometry.proofs.map.map_den.Goals as goal

pub returns : goal.returns
unfolding map_den of_bits
returns c = refl
