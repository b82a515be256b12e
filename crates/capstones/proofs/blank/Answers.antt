-- `blank` is the blank stone: 0 / 0 is no number. Assumes nothing.
use mathlib.Core.Path.{refl}
use lib.Ieee.{div, of_bits}
use Rattle.capstones.proofs.blank.Goals as goal

pub returns : goal.returns
unfolding div of_bits
returns c = refl
