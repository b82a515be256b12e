-- A float without its sign; and two tests at once. Assumes nothing.
use mathlib.Core.Path.{◌≡◌, refl}
use mathlib.Core.Bool.{Bool, true, false, ◌&&◌, false≢true}
use lib.Ieee.{Float, nan, inf, fin}
use Rattle.std.specs.Float.{float_with_sign}
use Rattle.match_capstones.specs.Neighbors.{absolute}

-- the library's `abs` takes the sign off
pub unsigned : (x : Float) → float_with_sign false x ≡ absolute x
unfolding float_with_sign absolute
unsigned nan = refl
unsigned (inf s) = refl
unsigned (fin s m d) = refl

-- two tests that both hold
pub and_both : (a b : Bool) → (a && b) ≡ true → (a ≡ true) × (b ≡ true)
and_both true b e = (refl, e)
and_both false b e = absurd (false≢true e)
