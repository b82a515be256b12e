-- Pixels from hex digits. Definitions alone.
use Rattle.std.specs.Prelude.{ℕ, ◌+◌, ◌*◌, ◌/◌, ◌%◌, ◌<◌, ◌≡◌, cond, List, eqb, get_or}
use Rattle.vectors.specs.Words.{digit_at}

-- bit k of a digit, bit 0 the highest of four
unfoldable pub bit_of : ℕ → ℕ → ℕ
bit_of d k = cond (eqb k 0) (d / 8 % 2) (cond (eqb k 1) (d / 4 % 2) (cond (eqb k 2) (d / 2 % 2) (d % 2)))

-- the byte of two digits, the high one first
unfoldable pub byte_of : ℕ → ℕ → ℕ
byte_of high low = (high * 16 + low) % 256

-- pixel i of a text with four pixels to a digit
unfoldable pub bit_at : List ℕ → ℕ → ℕ
bit_at s i = bit_of (digit_at s (i / 4)) (i % 4)

-- pixel i of a text with two digits to a pixel
unfoldable pub byte_at : List ℕ → ℕ → ℕ
byte_at s i = byte_of (digit_at s (i * 2)) (digit_at s (i * 2 + 1))

-- the first n pixels of a picture are those that a rule gives
abbrev pub Shows : (ℕ → ℕ) → ℕ → List ℕ → Type 0
Shows rule n p = (i : ℕ) → i < n → get_or p i 0 ≡ rule i
