-- The operations on signed whole numbers are the integers'. Assumes nothing.
use Prim.Native.Nat.{ℕ, zero, suc, ◌+◌, ◌-◌, ◌*◌, ◌<◌, ◌≤◌}
use native.Mathlib.Nat.{mul-zero, zero-mul}
use native.Mathlib.Omega.{arith}
use mathlib.Core.Path.{◌≡◌, refl, sym, ap, ◌∙◌}
use mathlib.Core.Bool.{Bool, true, false, not, cond}
use lib.Dec.{T, ltb, ltb→lt, nltb→le}
use lib.IntN.{ℤ, pos, negsuc, neg_ℤ, nat_abs, ◌+ℤ◌, ◌-ℤ◌, ◌*ℤ◌, +ℤ_comm, neg_ℤ-+ℤ, neg_ℤ-neg_ℤ}
use Rattle.exact.specs.Signed.{Signed, signed, value, plus, minus, times, negate}

pub value_signed : (z : ℤ) → value (signed z) ≡ z
value_signed (pos n) = refl
value_signed (negsuc n) = refl

pub size_signed : (z : ℤ) → (signed z).size ≡ nat_abs z
size_signed (pos n) = refl
size_signed (negsuc n) = refl

pub size_value : (a : Signed) → nat_abs (value a) ≡ a.size
size_value a = go a.negative a.size
  where
    go : (s : Bool) (n : ℕ) → nat_abs (cond s (neg_ℤ (pos n)) (pos n)) ≡ n
    go false n = refl
    go true zero = refl
    go true (suc n) = refl

pub value_negate : (a : Signed) → value (negate a) ≡ neg_ℤ (value a)
unfolding negate
value_negate a = go a.negative (pos a.size)
  where
    go : (s : Bool) (z : ℤ) → cond (not s) (neg_ℤ z) z ≡ neg_ℤ (cond s (neg_ℤ z) z)
    go false z = refl
    go true z = sym (neg_ℤ-neg_ℤ z)

-- m - n, by which is the larger
difference : (m n : ℕ) → pos m -ℤ pos n ≡ cond (ltb m n) (neg_ℤ (pos (n - m))) (pos (m - n))
difference m zero = go (ltb m 0) (ltb→lt m 0)
  where
    go : (b : Bool) → (T b → m < 0) → pos (m + 0) ≡ cond b (neg_ℤ (pos (0 - m))) (pos (m - 0))
    go true f = let h = f tt in absurd (omega arith)
    go false f = ap pos (omega arith)
difference m (suc n) = go (ltb m (suc n)) (ltb→lt m (suc n))
  where
    go : (b : Bool) → (T b → m < suc n) → cond b (negsuc (suc n - suc m)) (pos (m - suc n)) ≡ cond b (neg_ℤ (pos (suc n - m))) (pos (m - suc n))
    go true f = let h = f tt in let e : suc (suc n - suc m) ≡ suc n - m = omega arith in ap (λ (k : ℕ). neg_ℤ (pos k)) e
    go false f = refl

pub value_plus : (a b : Signed) → value (plus a b) ≡ value a +ℤ value b
unfolding plus
value_plus a b = go a.negative b.negative a.size b.size
  where
    go : (s t : Bool) (m n : ℕ) → value (plus (record { negative = s; size = m }) (record { negative = t; size = n })) ≡ cond s (neg_ℤ (pos m)) (pos m) +ℤ cond t (neg_ℤ (pos n)) (pos n)
    go false false m n = refl
    go true true m n = neg_ℤ-+ℤ (pos m) (pos n)
    go false true m n = smaller (ltb m n) ∙ sym (difference m n)
      where
        smaller : (u : Bool) → value (cond u (record { negative = true; size = n - m }) (record { negative = false; size = m - n })) ≡ cond u (neg_ℤ (pos (n - m))) (pos (m - n))
        smaller true = refl
        smaller false = refl
    go true false m n = larger (ltb m n) (ltb n m) (ltb→lt m n) (ltb→lt n m) (nltb→le m n) (nltb→le n m) ∙ sym (+ℤ_comm (neg_ℤ (pos m)) (pos n) ∙ difference n m)
      where
        larger : (u v : Bool) → (T u → m < n) → (T v → n < m) → (T (not u) → n ≤ m) → (T (not v) → m ≤ n)
            → value (cond u (record { negative = false; size = n - m }) (record { negative = v; size = m - n })) ≡ cond v (neg_ℤ (pos (m - n))) (pos (n - m))
        larger true true f g p q = let h = f tt in let k = g tt in absurd (omega arith)
        larger true false f g p q = refl
        larger false true f g p q = refl
        larger false false f g p q = let h = p tt in let k = q tt in let e : m - n ≡ n - m = omega arith in ap pos e

pub value_minus : (a b : Signed) → value (minus a b) ≡ value a -ℤ value b
unfolding minus
value_minus a b = value_plus a (negate b) ∙ ap (λ (z : ℤ). value a +ℤ z) (value_negate b)

-- both zeros are 0
no_sign : (k : ℕ) → k ≡ 0 → neg_ℤ (pos k) ≡ pos k
no_sign k e = rw e

pub value_times : (a b : Signed) → value (times a b) ≡ value a *ℤ value b
unfolding times
value_times a b = go a.negative b.negative a.size b.size
  where
    go : (s t : Bool) (m n : ℕ) → value (times (record { negative = s; size = m }) (record { negative = t; size = n })) ≡ cond s (neg_ℤ (pos m)) (pos m) *ℤ cond t (neg_ℤ (pos n)) (pos n)
    go false false m n = refl
    go false true m zero = no_sign (m * 0) (mul-zero m)
    go false true m (suc n) = refl
    go true false zero n = no_sign (0 * n) (zero-mul n)
    go true false (suc m) n = refl
    go true true zero zero = refl
    go true true zero (suc n) = sym (no_sign (0 * suc n) (zero-mul (suc n)))
    go true true (suc m) zero = sym (no_sign (suc m * 0) (mul-zero (suc m)))
    go true true (suc m) (suc n) = refl

-- ---- the sign is the integer's, but for a zero's
-- a number above 0 has no minus sign
pub above_zero : (a : Signed) (n : ℕ) → 0 < n → value a ≡ pos n → a ≡ record { negative = false; size = n }
above_zero a n h e = go a.negative a.size e
  where
    go : (s : Bool) (m : ℕ) → cond s (neg_ℤ (pos m)) (pos m) ≡ pos n → ◌≡◌ {A = Signed} (record { negative = s; size = m }) (record { negative = false; size = n })
    go false m e = cc
    go true zero e = let z : 0 ≡ n = cc in absurd (omega arith)
    go true (suc m) e = let z : ◌≡◌ {A = ℕ} 0 1 = cc in absurd (omega arith)

-- a signed whole number that is not 0 is the one that its integer is
pub signed_value : (a : Signed) → 0 < a.size → signed (value a) ≡ a
signed_value a h = go a.negative a.size h
  where
    go : (s : Bool) (m : ℕ) → 0 < m → signed (cond s (neg_ℤ (pos m)) (pos m)) ≡ record { negative = s; size = m }
    go s zero h = absurd (omega arith)
    go false (suc m) h = refl
    go true (suc m) h = refl
