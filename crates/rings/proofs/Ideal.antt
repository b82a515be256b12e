-- An ideal mark passes the ratio test: ISO/IEC 18004 draws a ring 7 modules wide and 1 thick around a stone of 3 by 3, whatever a module's width. Assumes nothing.
use Prim.Native.Nat.{ℕ, ◌-◌, ◌*◌, ◌<◌}
use native.Mathlib.Nat.{mul-pos, mul-div-mul_right}
use native.Mathlib.Omega.{arith}
use mathlib.Core.Path.{◌≡◌}
use mathlib.Core.Bool.{true}
use Rattle.rings.specs.Ratio.{ratio, ring_like}

-- a square of so many pixels a side
abbrev square : ℕ → ℕ
square side = side * side

-- the pixels of the stone and of the ring, for modules of m by m pixels
abbrev pub ideal_stone : ℕ → ℕ
ideal_stone m = square (3 * m)

abbrev pub ideal_ring : ℕ → ℕ
ideal_ring m = square (7 * m) - square (5 * m)

pub ideal_ratio : (m : ℕ) → 0 < m → ratio (ideal_stone m) (ideal_ring m) ≡ 37
unfolding ratio
ideal_ratio m some =
    let stone : square (3 * m) * 100 ≡ 900 * (m * m) = omega arith in
    let ring : square (7 * m) - square (5 * m) ≡ 24 * (m * m) = omega arith in
    rw (stone, ring) (mul-div-mul_right 900 24 (mul-pos some some))

pub ideal_passes : (m : ℕ) → 0 < m → ring_like (ideal_stone m) (ideal_ring m) ≡ true
unfolding ring_like
ideal_passes m some = rw (ideal_ratio m some)
