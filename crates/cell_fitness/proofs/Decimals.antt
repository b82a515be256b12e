-- The decimals of the source are the floats nearest to their fractions. Assumes nothing.
use mathlib.Core.Path.{◌≡◌, refl}
use lib.Ieee as Ieee
use lib.Ieee.{of_bits, binary64}
use Rattle.cell_fitness.specs.Seen.{ratio}

pub three_tenths : of_bits binary64 0x3fd3333333333333 ≡ ratio 3 10
unfolding of_bits Ieee.of_int Ieee.div
three_tenths = refl

pub five_tenths : of_bits binary64 0x3fe0000000000000 ≡ ratio 5 10
unfolding of_bits Ieee.of_int Ieee.div
five_tenths = refl

pub seven_tenths : of_bits binary64 0x3fe6666666666666 ≡ ratio 7 10
unfolding of_bits Ieee.of_int Ieee.div
seven_tenths = refl
