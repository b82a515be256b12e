-- Decimal text: how it grows, what it says, and that no other text is it. Assumes nothing.
use Prim.Native.Nat.{ℕ, zero, suc, ◌+◌, ◌/◌, ◌%◌, ◌^◌, ◌≤◌, ◌<◌}
use native.Mathlib.Nat.{le_refl}
use native.Mathlib.Omega.{arith}
use mathlib.Core.Path.{◌≡◌, refl, sym, ap, ◌∙◌}
use mathlib.Core.Bool.{Bool, true, false}
use mathlib.Core.List.{List, [], ◌∷◌, ◌++◌}
use lib.Dec.{ltb}
use lib.ListN.{length, length-append}
use borrow.Author.Tests.{ltb-true, ltb-false, lt-ltb, le-ltb}
use Rattle.netpbm.specs.Machine.{decades}
use Rattle.report.specs.Numbers.{decimal_to, decimal}

-- a number below 10 has one digit
below_ten : (k n : ℕ) → n < 10 → decimal_to k n ≡ (48 + n) ∷ []
unfolding decimal_to
below_ten zero n h = refl
below_ten (suc k) n h = rw (lt-ltb n 10 h)

from_ten : (k n : ℕ) → 10 ≤ n → decimal_to (suc k) n ≡ decimal_to k (n / 10) ++ ((48 + n % 10) ∷ [])
unfolding decimal_to
from_ten k n h = rw (le-ltb n 10 h)

-- how far up it is counted does not matter
far_enough : (k j n : ℕ) → n ≤ k → n ≤ j → decimal_to k n ≡ decimal_to j n
far_enough zero j n a b = below_ten zero n (omega arith) ∙ sym (below_ten j n (omega arith))
far_enough (suc k) zero n a b = below_ten (suc k) n (omega arith) ∙ sym (below_ten zero n (omega arith))
far_enough (suc k) (suc j) n a b = go (ltb n 10) refl (λ h. far_enough k j (n / 10) (omega arith) (omega arith))
  where
    go : (t : Bool) → ltb n 10 ≡ t → (10 ≤ n → decimal_to k (n / 10) ≡ decimal_to j (n / 10)) → decimal_to (suc k) n ≡ decimal_to (suc j) n
    go true is tenth = let h = ltb-true n 10 is in below_ten (suc k) n h ∙ sym (below_ten (suc j) n h)
    go false is tenth =
        let h = ltb-false n 10 is in
        from_ten k n h ∙ ap (λ (l : List ℕ). l ++ ((48 + n % 10) ∷ [])) (tenth h) ∙ sym (from_ten j n h)

pub decimal_one : (n : ℕ) → n < 10 → decimal n ≡ (48 + n % 10) ∷ []
unfolding decimal
decimal_one n h =
    let same : n ≡ n % 10 = omega arith in
    below_ten n n h ∙ ap (λ (d : ℕ). (48 + d) ∷ []) same

pub decimal_more : (n : ℕ) → 10 ≤ n → decimal n ≡ decimal (n / 10) ++ ((48 + n % 10) ∷ [])
unfolding decimal
decimal_more zero h = absurd (omega arith)
decimal_more (suc n) h =
    from_ten n (suc n) h ∙ ap (λ (l : List ℕ). l ++ ((48 + suc n % 10) ∷ [])) (far_enough n (suc n / 10) (suc n / 10) (omega arith) (le_refl (suc n / 10)))

-- one digit more from ten on
pub decimal_longer : (n : ℕ) → 10 ≤ n → length (decimal n) ≡ length (decimal (n / 10)) + 1
decimal_longer n h = ap length (decimal_more n h) ∙ length-append (decimal (n / 10)) ((48 + n % 10) ∷ [])

-- a number below a power of ten has no more digits than it
short : (k n : ℕ) → n < decades (suc k) → length (decimal n) ≤ suc k
unfolding decades
short zero n h = omega (arith, ap length (decimal_one n (omega arith)))
short (suc k) n h = go (ltb n 10) refl (short k (n / 10) (omega arith))
  where
    go : (t : Bool) → ltb n 10 ≡ t → length (decimal (n / 10)) ≤ suc k → length (decimal n) ≤ suc (suc k)
    go true is tenth = omega (arith, ap length (decimal_one n (ltb-true n 10 is)))
    go false is tenth = omega (arith, decimal_longer n (ltb-false n 10 is), tenth)

pub byte_short : (n : ℕ) → n < 256 → length (decimal n) ≤ 3
unfolding decades
byte_short n h = short 2 n (omega arith)

pub size_short : (n : ℕ) → n ≤ 2 ^ 31 → length (decimal n) ≤ 10
unfolding decades
size_short n h = short 9 n (omega arith)

pub word_short : (n : ℕ) → n < 2 ^ 64 → length (decimal n) ≤ 20
unfolding decades
word_short n h = short 19 n (omega arith)
