-- Hex text: how it grows, what it says, and that no other text is it. Assumes nothing.
use Prim.Native.Nat.{ℕ, zero, suc, ◌-◌, ◌/◌, ◌%◌}
use native.Mathlib.Omega.{arith}
use native.Mathlib.Numerals.{sub-one}
use mathlib.Core.Path.{◌≡◌, refl, ◌∙◌}
use mathlib.Core.List.{[], ◌∷◌, ◌++◌}
use lib.ListN.{length, length-append}
use Rattle.report.specs.Numbers.{hex_digit, hex}

pub hex_none : (k n : ℕ) → k ≡ 0 → hex k n ≡ []
unfolding hex
hex_none k n e = rw e refl

pub hex_more : (k n : ℕ) → (k ≡ 0 → ⊥) → hex k n ≡ hex (k - 1) (n / 16) ++ (hex_digit (n % 16) ∷ [])
unfolding hex
hex_more zero n some = absurd (some refl)
hex_more (suc k) n some = rw (sub-one (suc k)) refl

-- k places are k bytes
pub hex_length : (k n : ℕ) → length (hex k n) ≡ k
unfolding hex
hex_length zero n = refl
hex_length (suc k) n = length-append (hex k (n / 16)) (hex_digit (n % 16) ∷ []) ∙ omega (arith, hex_length k (n / 16))
