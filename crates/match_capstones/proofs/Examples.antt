-- The definitions at values of their own: the constants, what is kept, and how zeros and what is no number rank. Assumes nothing.
use mathlib.Core.Path.{◌≡◌, refl}
use mathlib.Core.Bool.{true, false}
use lib.IntN.{pos, negsuc}
use lib.Ieee.{nan, inf, fin, lt, sub, div, of_int, is_nan}
use Rattle.floats.specs.Float64.{◌⊘◌, float}
use Rattle.capstones.specs.Modules.{middle}
use Rattle.match_capstones.specs.Neighbors.{absolute, fifth}
use Rattle.match_capstones.specs.Scores.{score_of, viable}
use Rattle.match_capstones.specs.Order.{ranks_before, alike}

middle_is : middle ≡ float (pos 7) ⊘ float (pos 2)
unfolding div of_int
middle_is = refl

fifth_is : fifth ≡ float (pos 1) ⊘ float (pos 5)
unfolding div of_int
fifth_is = refl

-- three against four: a score of 0.25, which is not kept
quarter_off : score_of (float (pos 3)) (float (pos 4)) ≡ fin false 1 (negsuc 1)
unfolding score_of absolute lt sub div of_int
quarter_off = refl

quarter_dropped : viable (fin false 1 (negsuc 1)) ≡ false
unfolding viable lt is_nan
quarter_dropped = refl

-- infinite distances give no number, which is kept
endless_score : score_of (inf false) (inf false) ≡ nan
unfolding score_of absolute lt sub div
endless_score = refl

endless_kept : viable nan ≡ true
unfolding viable lt is_nan
endless_kept = refl

-- a zero ranks as a zero of the other sign, and before what is no number
zeros_alike : alike (fin false 0 (pos 0)) (fin true 0 (pos 0)) ≡ true
unfolding ranks_before lt is_nan
zeros_alike = refl

nan_last : ranks_before (inf false) nan ≡ true
unfolding ranks_before lt is_nan
nan_last = refl
