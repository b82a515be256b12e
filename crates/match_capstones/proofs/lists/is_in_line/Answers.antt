-- `is_in_line` compares the distance across with a fifth of the distance along. Assumes nothing.
use mathlib.Core.Path.{refl}
use lib.Ieee.{of_bits}
use Rattle.match_capstones.specs.Neighbors.{in_line}
use Rattle.match_capstones.proofs.lists.is_in_line.Goals as goal

pub returns : goal.returns
unfolding in_line of_bits
returns c = refl
