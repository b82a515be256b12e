-- Some texts, byte by byte. Assumes nothing.
use mathlib.Core.Path.{◌≡◌, refl}
use mathlib.Core.Bool.{true}
use mathlib.Core.List.{[], ◌∷◌}
use lib.IntN.{pos, negsuc}
use lib.Ieee.{nan, fin, to_bits}
use Rattle.report.specs.Numbers.{decimal_to, decimal, signed, hex_digit, hex, float}
use Rattle.report.specs.Lines.{count_line, refused_line, count_lines}

-- `capstones 1` and `grids 0`, a line each: what document 01 prints for a single mark
pub one_mark : count_lines 1 0
    ≡ 99 ∷ 97 ∷ 112 ∷ 115 ∷ 116 ∷ 111 ∷ 110 ∷ 101 ∷ 115 ∷ 32 ∷ 49 ∷ 10 ∷ 103 ∷ 114 ∷ 105 ∷ 100 ∷ 115 ∷ 32 ∷ 48 ∷ 10 ∷ []
unfolding count_lines count_line decimal decimal_to
one_mark = refl

-- `refused 17`
pub seventeen : refused_line 17 ≡ 114 ∷ 101 ∷ 102 ∷ 117 ∷ 115 ∷ 101 ∷ 100 ∷ 32 ∷ 49 ∷ 55 ∷ 10 ∷ []
unfolding refused_line count_line decimal decimal_to
seventeen = refl

-- `-10`
pub minus_ten : signed (negsuc 9) ≡ 45 ∷ 49 ∷ 48 ∷ []
unfolding signed decimal decimal_to
minus_ten = refl

-- `7ff8000000000000`, and `8000000000000000` for a negative zero
pub not_a_number : float nan ≡ 55 ∷ 102 ∷ 102 ∷ 56 ∷ 48 ∷ 48 ∷ 48 ∷ 48 ∷ 48 ∷ 48 ∷ 48 ∷ 48 ∷ 48 ∷ 48 ∷ 48 ∷ 48 ∷ []
unfolding float hex hex_digit to_bits
not_a_number = refl

pub negative_zero : float (fin true 0 (pos 0)) ≡ 56 ∷ 48 ∷ 48 ∷ 48 ∷ 48 ∷ 48 ∷ 48 ∷ 48 ∷ 48 ∷ 48 ∷ 48 ∷ 48 ∷ 48 ∷ 48 ∷ 48 ∷ 48 ∷ []
unfolding float hex hex_digit to_bits
negative_zero = refl
