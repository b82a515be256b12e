-- Each operation of binary64 on whole numbers: a sum, difference or product is the true one rounded once, so exact up to 2 ^ 53,
-- a negation is always exact, a quotient is the true one rounded once, and only numbers above 0 are not below EPSILON. Assumes nothing.
use Prim.Native.Nat.{ℕ, zero, suc, ◌+◌, ◌-◌, ◌*◌, ◌^◌, ◌<◌, ◌≤◌}
use native.Mathlib.Nat.{mul-one, mul_comm, mul_assoc, mul-mul-mul_comm, mul-pos, add-mul, suc-mul, mul-sub, zero-lt-suc, mul-lt-mul_of_pos_right, mul-le-mul_right, eq_of_mul-eq-mul_right}
use native.Mathlib.Omega.{arith}
use mathlib.Core.Path.{◌≡◌, refl, sym, ap, ◌∙◌, subst}
use mathlib.Core.Bool.{Bool, true, false, not, ◌&&◌, beq, cond}
use lib.Dec.{ltb, leb}
use lib.Signed.{le_z}
use lib.IntN.{ℤ, pos, negsuc, neg_ℤ, nat_abs}
use borrow.Author.Tests.{ltb-true, ltb-false, lt-ltb, le-ltb, lt-leb, ne_eqb}
use lib.Ieee as Ieee
use lib.Ieee.{Float, nan, inf, fin, binary64, unlike, up, down, round, of_int}
use lib.Ieee.Fits.{down_pos, round-fits, neg-fits}
use lib.Ieee.Back.{round_whole, whole_unique}
use lib.Ieee.Scale.{round_same}
use lib.Ieee.Positive.{first_pos}
use Rattle.exact.specs.Signed.{Signed, IsWhole, signed, value, plus, minus, times, negate, quotient}
use Rattle.exact.proofs.Value.{above_zero}

-- a rounded to binary64
abbrev pub rounded : Signed → Float
rounded a = round binary64 a.negative a.size 1

pub exactly : (a : Signed) → a.size ≤ 2 ^ 53 → IsWhole (rounded a) a
exactly a h = record { held = round-fits binary64 a.negative a.size 1; exact = round_whole binary64 a.negative a.size h }

-- ---- one number, one float
pub whole_only : {x y : Float} {a : Signed} → IsWhole x a → IsWhole y a → x ≡ y
whole_only {x} {y} {a} p q = whole_unique binary64 x y a.negative a.size p.held q.held p.exact q.exact

-- and one float, one number
pub number_only : {x : Float} {a b : Signed} → IsWhole x a → IsWhole x b → a ≡ b
number_only {x = nan} p q = absurd p.exact
number_only {x = inf s} p q = absurd p.exact
number_only {x = fin s m e} {a} {b} p q =
    let sign : a.negative ≡ b.negative = sym p.exact.0 ∙ q.exact.0 in
    let size : a.size ≡ b.size = eq_of_mul-eq-mul_right (down e) (down_pos e) a.size b.size (sym p.exact.1 ∙ q.exact.1) in
    λ i. record { negative = sign i; size = size i }

-- ---- an integer as a float
pub whole_int : (z : ℤ) → nat_abs z ≤ 2 ^ 53 → IsWhole (of_int binary64 z) (signed z)
unfolding of_int
whole_int (pos n) h = exactly (signed (pos n)) h
whole_int (negsuc n) h = exactly (signed (negsuc n)) h

-- ---- negation
pub whole_negate : {x : Float} {a : Signed} → IsWhole x a → IsWhole (Ieee.neg x) (negate a)
unfolding Ieee.neg negate
whole_negate {x = nan} p = absurd p.exact
whole_negate {x = inf s} p = absurd p.exact
whole_negate {x = fin s m e} p = record { held = neg-fits binary64 (fin s m e) p.held; exact = (ap not p.exact.0, p.exact.1) }

-- ---- the sum
-- a finite float's size, over its own denominator, and over a multiple of it
own : (m : ℕ) (e : ℤ) (a : ℕ) → m * up e * 1 ≡ a * down e → m * up e ≡ a * down e
own m e a h = sym (mul-one (m * up e)) ∙ h

over : (m : ℕ) (e : ℤ) (a d : ℕ) → m * up e * 1 ≡ a * down e → m * up e * d ≡ a * (down e * d)
over m e a d h = ap (λ (z : ℕ). z * d) (own m e a h) ∙ mul_assoc a (down e) d

-- n / c is the whole number k
pub reduced : (s : Bool) (n k c : ℕ) → 0 < c → n ≡ k * c → round binary64 s n c ≡ round binary64 s k 1
reduced s n k c h e = round_same binary64 s n c k 1 h (zero-lt-suc 0) (mul-one n ∙ e)

ltb_scale : (a b c : ℕ) → 0 < c → ltb (a * c) (b * c) ≡ ltb a b
ltb_scale a b c h = go (ltb a b) refl
  where
    go : (t : Bool) → ltb a b ≡ t → ltb (a * c) (b * c) ≡ t
    go true e = lt-ltb (a * c) (b * c) (mul-lt-mul_of_pos_right (ltb-true a b e) h)
    go false e = le-ltb (a * c) (b * c) (mul-le-mul_right c (ltb-false a b e))

sub_scale : (a b c : ℕ) → a * c - b * c ≡ (a - b) * c
sub_scale a b c = sym (mul_comm (a - b) c ∙ mul-sub c a b ∙ simp mul_comm)

module _ (s t : Bool) (a b c : ℕ) (h : 0 < c) where
  plus_cases : (w u v : Bool)
      → cond w (round binary64 s (a * c + b * c) c) (cond u (round binary64 t (b * c - a * c) c) (round binary64 (s && v) (a * c - b * c) c))
      ≡ rounded (cond w (record { negative = s; size = a + b }) (cond u (record { negative = t; size = b - a }) (record { negative = s && v; size = a - b })))
  plus_cases true u v = reduced s (a * c + b * c) (a + b) c h (sym (add-mul a b c))
  plus_cases false true v = reduced t (b * c - a * c) (b - a) c h (sub_scale b a c)
  plus_cases false false v = reduced (s && v) (a * c - b * c) (a - b) c h (sub_scale a b c)

  plus_rounded : Ieee.sum binary64 s (a * c) t (b * c) c ≡ rounded (plus (record { negative = s; size = a }) (record { negative = t; size = b }))
  unfolding Ieee.sum plus
  plus_rounded =
      rw (ltb_scale a b c h, ltb_scale b a c h) (plus_cases (beq s t) (ltb a b) (ltb b a))

sum_rounded : {x y : Float} {a b : Signed} → IsWhole x a → IsWhole y b → Ieee.add binary64 x y ≡ rounded (plus a b)
unfolding Ieee.add
sum_rounded {x = nan} p q = absurd p.exact
sum_rounded {x = inf s} p q = absurd p.exact
sum_rounded {x = fin s m e} {y = nan} p q = absurd q.exact
sum_rounded {x = fin s m e} {y = inf t} p q = absurd q.exact
sum_rounded {x = fin s m e} {y = fin t n d} {a} {b} p q =
    rw (p.exact.0, q.exact.0, over m e a.size (down d) p.exact.1, over n d b.size (down e) q.exact.1, mul_comm (down d) (down e))
    (plus_rounded a.negative b.negative a.size b.size (down e * down d) (mul-pos (down_pos e) (down_pos d)))

-- the sum of two whole numbers is exact as far as 2 ^ 53
pub whole_plus : {x y : Float} {a b : Signed} → IsWhole x a → IsWhole y b → (plus a b).size ≤ 2 ^ 53 → IsWhole (Ieee.add binary64 x y) (plus a b)
whole_plus {a} {b} p q h = subst (λ (z : Float). IsWhole z (plus a b)) (sym (sum_rounded p q)) (exactly (plus a b) h)

pub whole_minus : {x y : Float} {a b : Signed} → IsWhole x a → IsWhole y b → (minus a b).size ≤ 2 ^ 53 → IsWhole (Ieee.sub binary64 x y) (minus a b)
unfolding Ieee.sub minus
whole_minus p q h = whole_plus p (whole_negate q) h

-- ---- the product
product_rounded : {x y : Float} {a b : Signed} → IsWhole x a → IsWhole y b → Ieee.mul binary64 x y ≡ rounded (times a b)
unfolding Ieee.mul times
product_rounded {x = nan} p q = absurd p.exact
product_rounded {x = inf s} p q = absurd p.exact
product_rounded {x = fin s m e} {y = nan} p q = absurd q.exact
product_rounded {x = fin s m e} {y = inf t} p q = absurd q.exact
product_rounded {x = fin s m e} {y = fin t n d} {a} {b} p q =
    rw (p.exact.0, q.exact.0)
    (reduced (unlike a.negative b.negative) (m * up e * (n * up d)) (a.size * b.size) (down e * down d) (mul-pos (down_pos e) (down_pos d))
    (rw (own m e a.size p.exact.1, own n d b.size q.exact.1) (mul-mul-mul_comm a.size (down e) b.size (down d))))

pub whole_times : {x y : Float} {a b : Signed} → IsWhole x a → IsWhole y b → (times a b).size ≤ 2 ^ 53 → IsWhole (Ieee.mul binary64 x y) (times a b)
whole_times {a} {b} p q h = subst (λ (z : Float). IsWhole z (times a b)) (sym (product_rounded p q)) (exactly (times a b) h)

-- ---- the quotient
-- the quotient of two whole numbers, the divisor not 0, is the true quotient rounded once
pub whole_quotient : {x y : Float} {a b : Signed} → IsWhole x a → IsWhole y b → 0 < b.size
    → Ieee.div binary64 x y ≡ quotient (record { negative = unlike a.negative b.negative; size = a.size }) b.size
unfolding Ieee.div quotient
whole_quotient {x = nan} p q h = absurd p.exact
whole_quotient {x = inf s} p q h = absurd p.exact
whole_quotient {x = fin s m e} {y = nan} p q h = absurd q.exact
whole_quotient {x = fin s m e} {y = inf t} p q h = absurd q.exact
whole_quotient {x = fin s m e} {y = fin t n d} {a} {b} p q h =
    let c = down e * down d in
    let above : 0 < c = mul-pos (down_pos e) (down_pos d) in
    let below : n * up d * down e ≡ b.size * c = over n d b.size (down e) q.exact.1 ∙ ap (λ (z : ℕ). b.size * z) (mul_comm (down d) (down e)) in
    let some : 0 < n * (up d * down e) = subst (λ (z : ℕ). 0 < z) (sym below ∙ mul_assoc n (up d) (down e)) (mul-pos h above) in
    let divisor : 0 < n = first_pos n (up d * down e) some in
    rw (ne_eqb n 0 (omega arith), p.exact.0, q.exact.0, over m e a.size (down d) p.exact.1, below)
    (round_same binary64 (unlike a.negative b.negative) (a.size * c) (b.size * c) a.size b.size (mul-pos h above) h
    (mul_assoc a.size c b.size ∙ ap (λ (z : ℕ). a.size * z) (mul_comm c b.size)))

unlike_false : (s : Bool) → unlike s false ≡ s
unlike_false true = refl
unlike_false false = refl

-- and over a number above 0 it has the dividend's sign
pub whole_over : {x y : Float} {a b : Signed} (n : ℕ) → IsWhole x a → IsWhole y b → 0 < n → value b ≡ pos n → Ieee.div binary64 x y ≡ quotient a n
unfolding quotient
whole_over {x} {y} {a} {b} n p q h e =
    let above : IsWhole y (record { negative = false; size = n }) = subst (λ (c : Signed). IsWhole y c) (above_zero b n h e) q in
    whole_quotient p above h ∙ rw unlike_false

-- ---- below EPSILON, 2 ^ -52
-- n * d * 2 ^ 52 is below d for no n but 0
small : (n d : ℕ) → 0 < d → ltb (n * (d * 2 ^ 52)) (1 * d) ≡ leb n 0
small zero d h = lt-ltb (0 * (d * 2 ^ 52)) (1 * d) (omega arith)
small (suc n) d h =
    let e = suc-mul n (d * 2 ^ 52) in
    le-ltb (suc n * (d * 2 ^ 52)) (1 * d) (omega arith) ∙ sym (lt-leb (suc n) 0 (zero-lt-suc n))

-- a whole number is below EPSILON where it is 0 or less
pub below_epsilon : {x : Float} {a : Signed} → IsWhole x a → Ieee.lt x (fin false 1 (negsuc 51)) ≡ le_z (value a) (pos 0)
unfolding Ieee.lt
below_epsilon {x = nan} p = absurd p.exact
below_epsilon {x = inf s} p = absurd p.exact
below_epsilon {x = fin true m e} {a} p =
    let h = down_pos e in
    lt-ltb 0 (m * up e * 2 ^ 52 + 1 * down e) (omega arith)
    ∙ rw (← p.exact.0) (low a.size)
  where
    low : (n : ℕ) → true ≡ le_z (neg_ℤ (pos n)) (pos 0)
    low zero = refl
    low (suc n) = refl
below_epsilon {x = fin false m e} {a} p = rw (← p.exact.0, over m e a.size (2 ^ 52) p.exact.1) (small a.size (down e) (down_pos e))
