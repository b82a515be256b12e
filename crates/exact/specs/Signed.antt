-- Whole numbers with a sign, a zero's sign too, and which float is such a number. Assumes nothing.
use Rattle.std.specs.Prelude.{ℕ, suc, ◌+◌, ◌-◌, ◌*◌, Bool, true, false, not, ◌&&◌, cond, T, ltb, ℤ, pos, negsuc, neg_ℤ, Float}
use Rattle.std.specs.Bool.{beq}
use Rattle.std.specs.Float.{binary64}
use Rattle.std.specs.Float.Ieee.{unlike, round, fits}
use Rattle.std.specs.Float.Ieee.Exact.{HasValue}

-- a whole number by its sign and its size: +0 and -0 are two
pub record Signed : Type 0 where
  pub negative : Bool
  pub size : ℕ

-- the float x is the whole number a: binary64 holds x, and x has a's sign and a's size, with nothing rounded away
pub record IsWhole (x : Float) (a : Signed) : Type 0 where
  pub held : T (fits binary64 x)
  pub exact : HasValue x a.negative a.size 1

-- an integer's sign and size; 0 is +0
abbrev pub signed : ℤ → Signed
signed (pos n) = record { negative = false; size = n }
signed (negsuc n) = record { negative = true; size = suc n }

-- the integer that a is; both zeros are 0
abbrev pub value : Signed → ℤ
value a = cond a.negative (neg_ℤ (pos a.size)) (pos a.size)

-- The sum, by IEEE 754, 6.3. Like signs: that sign, and the sizes add up. Unlike signs: the smaller size off the larger,
-- with the larger's sign, and +0 where the sizes are equal.
unfoldable pub plus : Signed → Signed → Signed
plus a b =
    cond (beq a.negative b.negative) (record { negative = a.negative; size = a.size + b.size })
    (cond (ltb a.size b.size) (record { negative = b.negative; size = b.size - a.size })
    (record { negative = a.negative && ltb b.size a.size; size = a.size - b.size }))

-- the other sign, a zero's too
unfoldable pub negate : Signed → Signed
negate a = record { negative = not a.negative; size = a.size }

unfoldable pub minus : Signed → Signed → Signed
unfolding plus negate
minus a b = plus a (negate b)

-- the product: negative where the signs are unlike, a zero too (IEEE 754, 6.3)
unfoldable pub times : Signed → Signed → Signed
times a b = record { negative = unlike a.negative b.negative; size = a.size * b.size }

-- the float nearest to a / n, for an n above 0: one rounding of the true quotient, with a's sign, a zero's too
unfoldable pub quotient : Signed → ℕ → Float
quotient a n = round binary64 a.negative a.size n
