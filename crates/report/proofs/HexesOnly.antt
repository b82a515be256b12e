-- The hex text of a number says it, in lower-case digits, and no other text of its length does. Assumes nothing.
use Prim.Native.Nat.{ℕ, zero, suc, ◌+◌, ◌-◌, ◌*◌, ◌/◌, ◌%◌, ◌^◌, ◌≤◌, ◌<◌}
use native.Mathlib.Nat.{pow-suc}
use native.Mathlib.Omega.{arith}
use mathlib.Core.Path.{◌≡◌, refl, sym, ap, ◌∙◌}
use mathlib.Core.Bool.{Bool, true, false, ◌&&◌, ◌||◌}
use mathlib.Core.List.{List, [], ◌∷◌, ◌++◌}
use lib.Dec.{T, leb, ltb}
use lib.Ieee.{Float, binary64, fits, to_bits}
use lib.Ieee.Bits.{to_bits-lt}
use lib.ListN.{length, length-append}
use borrow.Author.Tests.{ltb-true, ltb-false, lt-ltb, le-ltb, le-leb, lt-leb, leb-true}
use Rattle.netpbm.specs.Form.{digit, all}
use Rattle.netpbm.proofs.Numbers.{both, digit_range}
use Rattle.report.specs.Numbers.{hex_digit, hex, float, is_hex, hex_value, hex_said_after, Hex}
use Rattle.report.proofs.Last.{ended, all_last, hex_said_last}
use Rattle.report.proofs.Hexes.{hex_length}

-- a digit below 10 is one of 0 to 9, any other one of a to f
low : (d : ℕ) → d < 10 → hex_digit d ≡ 48 + d
unfolding hex_digit
low d h = rw (lt-ltb d 10 h)

high : (d : ℕ) → 10 ≤ d → hex_digit d ≡ 97 + (d - 10)
unfolding hex_digit
high d h = rw (le-ltb d 10 h)

low_digit : (b : ℕ) → 48 ≤ b → b ≤ 57 → digit b ≡ true
unfolding digit
low_digit b h k = rw (le-leb 48 b h, le-leb b 57 k)

high_digit : (b : ℕ) → 57 < b → digit b ≡ false
unfolding digit
high_digit b h = rw (le-leb 48 b (omega arith), lt-leb b 57 h)

low_value : (b : ℕ) → digit b ≡ true → hex_value b ≡ b - 48
unfolding hex_value
low_value b e = rw e

high_value : (b : ℕ) → digit b ≡ false → hex_value b ≡ b - 87
unfolding hex_value
high_value b e = rw e

low_hex : (b : ℕ) → digit b ≡ true → is_hex b ≡ true
unfolding is_hex
low_hex b e = rw e

high_hex : (b : ℕ) → 97 ≤ b → b ≤ 102 → is_hex b ≡ true
unfolding is_hex
high_hex b h k = rw (high_digit b (omega arith), le-leb 97 b h, le-leb b 102 k)

-- the digit of d is a lower-case hex digit that stands for d
pub digit_stands : (d : ℕ) → d < 16 → (is_hex (hex_digit d) ≡ true) × (hex_value (hex_digit d) ≡ d)
digit_stands d h = go (ltb d 10) refl
  where
    go : (t : Bool) → ltb d 10 ≡ t → (is_hex (hex_digit d) ≡ true) × (hex_value (hex_digit d) ≡ d)
    go true is =
        let under = ltb-true d 10 is in
        let one = low_digit (48 + d) (omega arith) (omega arith) in
        rw (low d under) (low_hex (48 + d) one, low_value (48 + d) one ∙ omega arith)
    go false is =
        let over = ltb-false d 10 is in
        rw (high d over) (high_hex (97 + (d - 10)) (omega arith) (omega (arith, over)), high_value (97 + (d - 10)) (high_digit (97 + (d - 10)) (omega arith)) ∙ omega (arith, over))

-- and the only one
pub stands_only : (b : ℕ) → is_hex b ≡ true → (hex_value b < 16) × (b ≡ hex_digit (hex_value b))
unfolding is_hex
stands_only b e = go (digit b) refl e
  where
    go : (t : Bool) → digit b ≡ t → (t || (leb 97 b && leb b 102)) ≡ true → (hex_value b < 16) × (b ≡ hex_digit (hex_value b))
    go true is e =
        let r = digit_range b is in
        let v = low_value b is in
        rw v (omega (arith, r.1), sym (low (b - 48) (omega (arith, r.1)) ∙ omega (arith, r.0)))
    go false is e =
        let t = both (leb 97 b) (leb b 102) e in
        let from = leb-true 97 b t.0 in
        let to = leb-true b 102 t.1 in
        let v = high_value b is in
        rw v (omega (arith, from, to), sym (high (b - 87) (omega (arith, from)) ∙ omega (arith, from)))

pub hex_right : (k n : ℕ) → n < 16 ^ k → Hex k n (hex k n)
unfolding hex all hex_said_after
hex_right zero n h = record { digits = refl; says = omega (arith, h); long = refl }
hex_right (suc k) n h =
    let power = pow-suc 16 k in
    let H = hex_right k (n / 16) (omega (arith, power)) in
    let d = digit_stands (n % 16) (omega arith) in
    let s = hex k (n / 16) in
    record {
      digits = all_last is_hex s (hex_digit (n % 16)) ∙ rw H.digits d.0;
      says = hex_said_last 0 s (hex_digit (n % 16)) ∙ omega (arith, H.says, d.1);
      long = hex_length (suc k) n;
    }

by_last : (k n : ℕ) (s first : List ℕ) (d : ℕ) → s ≡ first ++ (d ∷ []) → Hex (suc k) n s → ((m : ℕ) (t : List ℕ) → Hex k m t → t ≡ hex k m) → s ≡ hex (suc k) n
unfolding hex
by_last k n s first d e H before =
    let m = hex_said_after 0 first in
    let digits = both (all is_hex first) (is_hex d) (sym (all_last is_hex first d) ∙ ap (all is_hex) (sym e) ∙ H.digits) in
    let stands = stands_only d digits.1 in
    let says : m * 16 + hex_value d ≡ n = sym (hex_said_last 0 first d) ∙ ap (hex_said_after 0) (sym e) ∙ H.says in
    let rest : m ≡ n / 16 = omega (arith, stands.0, says) in
    let last : hex_value d ≡ n % 16 = omega (arith, stands.0, says) in
    let long : length first ≡ k = omega (arith, ap length e, length-append first (d ∷ []), H.long) in
    let same : first ≡ hex k (n / 16) = before (n / 16) first (record { digits = digits.0; says = rest; long = long }) in
    e ∙ ap (λ (l : List ℕ). l ++ (d ∷ [])) same ∙ ap (λ (b : ℕ). hex k (n / 16) ++ (b ∷ [])) (stands.1 ∙ ap hex_digit last)

by_length : (k n : ℕ) (s : List ℕ) → Hex (suc k) n s → ((m : ℕ) (t : List ℕ) → Hex k m t → t ≡ hex k m) → s ≡ hex (suc k) n
by_length k n [] H before = absurd (omega (arith, H.long))
by_length k n (b ∷ s) H before = let E = ended b s in by_last k n (b ∷ s) E.first E.last E.whole H before

none_only : (n : ℕ) (s : List ℕ) → Hex 0 n s → s ≡ hex 0 n
unfolding hex
none_only n [] H = refl
none_only n (b ∷ s) H = absurd (omega (arith, H.long))

-- there is no other text of k hex digits that says n
pub hex_only : (k n : ℕ) (s : List ℕ) → Hex k n s → s ≡ hex k n
hex_only zero n s H = none_only n s H
hex_only (suc k) n s H = by_length k n s H (λ m t M. hex_only k m t M)

-- the text of a float says its bits
pub float_right : (x : Float) → T (fits binary64 x) → Hex 16 (to_bits binary64 x) (float x)
unfolding float
float_right x f = hex_right 16 (to_bits binary64 x) (to_bits-lt binary64 x f)
