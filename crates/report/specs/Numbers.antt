-- Numbers as text: decimal numbers, and the hex digits of a float's bits. What digits say, and that no other text says it, is shown in proofs/. Definitions alone.
use Rattle.std.specs.Prelude.{ℕ, zero, suc, ◌+◌, ◌-◌, ◌*◌, ◌/◌, ◌%◌, ◌<◌, ◌≡◌, Bool, true, cond, ◌&&◌, ◌||◌, List, [], ◌∷◌, ◌++◌, leb, ltb, ℤ, pos, negsuc, Float, length}
use Rattle.std.specs.Float.{binary64}
use Rattle.std.specs.Float.Ieee.{to_bits}
use Rattle.netpbm.specs.Form.{digit, all, said_after}

-- the decimal digits of a number up to k: those of its tenth, and its last digit
unfoldable pub decimal_to : ℕ → ℕ → List ℕ
decimal_to zero n = (48 + n) ∷ []
decimal_to (suc k) n = cond (ltb n 10) ((48 + n) ∷ []) (decimal_to k (n / 10) ++ ((48 + n % 10) ∷ []))

-- the decimal text of a number
unfoldable pub decimal : ℕ → List ℕ
decimal n = decimal_to n n

-- a single digit, or a first digit that is not 0
abbrev pub Plain : List ℕ → Type 0
Plain [] = ⊥
Plain (b ∷ []) = Unit {0}
Plain (b ∷ c ∷ s) = 48 < b

-- what it has to be: decimal digits that say n, without leading zeros
pub record Decimal (n : ℕ) (s : List ℕ) : Type 0 where
  pub digits : all digit s ≡ true
  pub says : said_after 0 s ≡ n
  pub plain : Plain s

-- a whole number: a minus sign where it is negative
unfoldable pub signed : ℤ → List ℕ
signed (pos n) = decimal n
signed (negsuc n) = 45 ∷ decimal (suc n)

-- the hex digit of d, lower case: 0 to 9, a to f
unfoldable pub hex_digit : ℕ → ℕ
hex_digit d = cond (ltb d 10) (48 + d) (97 + (d - 10))

-- k hex digits of n: those of its sixteenth, and its last digit
unfoldable pub hex : ℕ → ℕ → List ℕ
hex zero n = []
hex (suc k) n = hex k (n / 16) ++ (hex_digit (n % 16) ∷ [])

-- a float: the 16 hex digits of its bits. A NaN's bits are 7ff8000000000000
unfoldable pub float : Float → List ℕ
float x = hex 16 (to_bits binary64 x)

-- a hex digit in lower case
unfoldable pub is_hex : ℕ → Bool
is_hex b = digit b || (leb 97 b && leb b 102)

-- what it stands for
unfoldable pub hex_value : ℕ → ℕ
hex_value b = cond (digit b) (b - 48) (b - 87)

-- what hex digits say that follow others, which say n
unfoldable pub hex_said_after : ℕ → List ℕ → ℕ
hex_said_after n [] = n
hex_said_after n (b ∷ s) = hex_said_after (n * 16 + hex_value b) s

-- what hex text has to be: k lower-case digits that say n
pub record Hex (k n : ℕ) (s : List ℕ) : Type 0 where
  pub digits : all is_hex s ≡ true
  pub says : hex_said_after 0 s ≡ n
  pub long : length s ≡ k
