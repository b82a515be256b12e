-- Files on both sides of the form, byte by byte. Assumes nothing.
use mathlib.Core.Path.{refl}
use mathlib.Core.List.{[], ◌∷◌}
use native.Mathlib.Omega.{arith}
use lib.Dec.{lit<, lit≤}
use Rattle.netpbm.specs.Form.{space, digit, bit, all, said_after, pixels_in, Picture, Form}
use Rattle.netpbm.specs.Machine.{takes, in_width, in_height, sized, takes_pixel, in_pixels, stepped, kept, fed, ended_in}
use Rattle.netpbm.proofs.Told.{refused_none}

-- `P1 3 1 1 0 1` is a picture 3 x 1
pub three_by_one : Form (80 ∷ 49 ∷ 32 ∷ 51 ∷ 32 ∷ 49 ∷ 32 ∷ 49 ∷ 32 ∷ 48 ∷ 32 ∷ 49 ∷ []) (record { width = 3; height = 1; pixels = 1 ∷ 0 ∷ 1 ∷ [] })
unfolding all space digit bit said_after pixels_in
three_by_one =
    record {
      gap = 32 ∷ [];
      first = 51 ∷ [];
      between = 32 ∷ [];
      second = 49 ∷ [];
      body = 32 ∷ 49 ∷ 32 ∷ 48 ∷ 32 ∷ 49 ∷ [];
      whole = refl;
      after_magic = record { white = refl; some = lit< tt };
      says_width = record { digits = refl; some = lit< tt; few = lit≤ tt; says = refl };
      after_width = record { white = refl; some = lit< tt };
      says_height = record { digits = refl; some = lit< tt; few = lit≤ tt; says = refl };
      few = lit≤ tt;
      parted = λ some. refl;
      plain = refl;
      shows = refl;
      exact = refl;
    }

-- `P1 0 5` has sides and no pixels
pub none_by_five : Form (80 ∷ 49 ∷ 32 ∷ 48 ∷ 32 ∷ 53 ∷ []) (record { width = 0; height = 5; pixels = [] })
unfolding all space digit said_after pixels_in
none_by_five =
    record {
      gap = 32 ∷ [];
      first = 48 ∷ [];
      between = 32 ∷ [];
      second = 53 ∷ [];
      body = [];
      whole = refl;
      after_magic = record { white = refl; some = lit< tt };
      says_width = record { digits = refl; some = lit< tt; few = lit≤ tt; says = refl };
      after_width = record { white = refl; some = lit< tt };
      says_height = record { digits = refl; some = lit< tt; few = lit≤ tt; says = refl };
      few = lit≤ tt;
      parted = λ some. omega (arith, some);
      plain = refl;
      shows = refl;
      exact = refl;
    }

-- `P1 0 5 1` is not of the form, nor is `P13 1 101`
pub a_digit_too_many : (p : Picture) → Form (80 ∷ 49 ∷ 32 ∷ 48 ∷ 32 ∷ 53 ∷ 32 ∷ 49 ∷ []) p → ⊥
unfolding space digit bit takes in_width in_height sized takes_pixel in_pixels stepped kept fed ended_in
a_digit_too_many = refused_none _ refl

pub no_gap : (p : Picture) → Form (80 ∷ 49 ∷ 51 ∷ 32 ∷ 49 ∷ 32 ∷ 49 ∷ 48 ∷ 49 ∷ []) p → ⊥
unfolding space stepped kept fed ended_in
no_gap = refused_none _ refl
