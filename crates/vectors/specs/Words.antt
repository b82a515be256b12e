-- Words of a recorded case. Definitions alone.
use Rattle.std.specs.Prelude.{ℕ, zero, suc, ◌+◌, ◌-◌, ◌*◌, cond, List, leb, ltb, length, get_or}
use Rattle.vectors.specs.declared.words.Word.{Word}

-- what a hex digit in lower case stands for, and 16 for any other byte
unfoldable pub digit_of : ℕ → ℕ
digit_of b = cond (ltb b 48) 16 (cond (leb b 57) (b - 48) (cond (ltb b 97) 16 (cond (leb b 102) (b - 97 + 10) 16)))

-- the digit at a place of a text, and 16 past its end
unfoldable pub digit_at : List ℕ → ℕ → ℕ
digit_at s at = cond (ltb at (length s)) (digit_of (get_or s at 0)) 16

-- up to k digits of a text that follow others, which say n and end at a place: each digit makes sixteen times the number and itself
unfoldable pub read_on : ℕ → List ℕ → ℕ → ℕ → Word
read_on zero s n at = record { value = n; next = at }
read_on (suc k) s n at = cond (leb 16 (digit_at s at)) (record { value = n; next = at }) (read_on k s (n * 16 + digit_at s at) (at + 1))

-- the word behind the separator at a place: up to 16 digits; past the end of the text it says 0
unfoldable pub word_at : List ℕ → ℕ → Word
word_at s at = cond (leb (length s) at) (record { value = 0; next = at }) (read_on 16 s 0 (at + 1))
