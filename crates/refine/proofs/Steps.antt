-- The decimals of the source are the floats nearest to their fractions. Assumes nothing.
use mathlib.Core.Path.{◌≡◌, refl}
use lib.Ieee as Ieee
use lib.Ieee.{of_bits, binary64}
use Rattle.cell_fitness.specs.Seen.{ratio}

pub two_hundredths : of_bits binary64 0x3f947ae147ae147b ≡ ratio 2 100
unfolding of_bits Ieee.of_int Ieee.div
two_hundredths = refl
