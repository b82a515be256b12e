-- The sign of a zero result, by IEEE 754, 6.3, in cases: x - x is +0, -0 + -0 is -0, and a product's zero has the product of the signs. Assumes nothing.
use Prim.Native.Nat.{zero, suc, ◌+◌, ◌-◌, ◌<◌}
use native.Mathlib.Nat.{mul-zero, sub_self, sub-zero, zero-add, lt_irrefl, zero-lt-suc}
use mathlib.Core.Path.{◌≡◌, refl}
use mathlib.Core.Bool.{Bool, true, false, not, ◌&&◌, beq, cond}
use lib.Dec.{T, ltb, ltb→lt}
use lib.IntN.{ℤ, pos, negsuc}
use lib.Ieee.{unlike}
use borrow.Author.Tests.{lt-ltb}
use Rattle.exact.specs.Signed.{Signed, signed, plus, minus, times, negate}

-- the zero with this sign
abbrev pub zero_of : Bool → Signed
zero_of s = record { negative = s; size = 0 }

pub minus_self : (a : Signed) → minus a a ≡ zero_of false
unfolding minus negate
minus_self a = go a.negative (ltb a.size a.size) (ltb→lt a.size a.size)
  where
    go : (s u : Bool) → (T u → a.size < a.size)
        → cond (beq s (not s)) (record { negative = s; size = a.size + a.size })
        (cond u (record { negative = not s; size = a.size - a.size }) (record { negative = s && u; size = a.size - a.size }))
        ≡ zero_of false
    go s true f = absurd (lt_irrefl a.size (f tt))
    go false false f = rw sub_self
    go true false f = rw sub_self

pub minus_zeros : plus (zero_of true) (zero_of true) ≡ zero_of true
unfolding plus
minus_zeros = refl

pub times_zero : (a : Signed) (s : Bool) → times a (zero_of s) ≡ zero_of (unlike a.negative s)
unfolding times
times_zero a s = rw mul-zero

pub plus_zeros : (s t : Bool) → plus (zero_of s) (zero_of t) ≡ zero_of (s && t)
unfolding plus
plus_zeros false false = refl
plus_zeros false true = refl
plus_zeros true false = refl
plus_zeros true true = refl

-- a zero of either sign adds nothing to an integer
pub plus_nothing : (s : Bool) (z : ℤ) → plus (zero_of s) (signed z) ≡ signed z
unfolding plus
plus_nothing false (pos n) = rw zero-add
plus_nothing true (pos zero) = refl
plus_nothing true (pos (suc n)) = rw (lt-ltb 0 (suc n) (zero-lt-suc n), sub-zero)
plus_nothing true (negsuc n) = rw zero-add
plus_nothing false (negsuc n) = rw (lt-ltb 0 (suc n) (zero-lt-suc n), sub-zero)
