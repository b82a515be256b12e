-- Tame perspectives: a test of the eight coefficients that only those pass that place every point of a grid. Definitions alone.
use Rattle.std.specs.Prelude.{ℕ, Bool, false, ◌&&◌, cond, leb, pos, negsuc, Float}
use Rattle.std.specs.Float.Ieee as Ieee
use Rattle.std.specs.Float.{fin}
use Rattle.floats.specs.Float64.{minus}
use Rattle.geometry.specs.declared.Perspective.{Perspective}

-- x lies strictly between a limit and its opposite; a NaN does not
unfoldable pub within : Float → Float → Bool
within limit x = Ieee.lt x limit && Ieee.lt (minus limit) x

-- the limit of c6 and c7, for a grid of so many cells along a side: 1 / 4 r, where r is the first of 32, 64, 128 and 256 that the size does not exceed
unfoldable pub slant : ℕ → Float
slant size =
    cond (leb size 32) (fin false 1 (negsuc 6))
    (cond (leb size 64) (fin false 1 (negsuc 7))
    (cond (leb size 128) (fin false 1 (negsuc 8)) (fin false 1 (negsuc 9))))

-- three coefficients of a numerator lie within 2 ^ 18
unfoldable pub near : Float → Float → Float → Bool
near a b c = within (fin false 1 (pos 18)) a && within (fin false 1 (pos 18)) b && within (fin false 1 (pos 18)) c

-- the denominator stays near 1 all over the grid, and no coefficient of a numerator is large
unfoldable pub tame : ℕ → Perspective → Bool
tame size c = within (slant size) c.c6 && within (slant size) c.c7 && near c.c0 c.c1 c.c2 && near c.c3 c.c4 c.c5
