-- A quotient cut toward zero: `quot_z` is one, there is only one, and it is the same for equal fractions. Assumes nothing.
use Prim.Native.Nat.{ℕ, zero, suc, ◌+◌, ◌*◌, ◌/◌, ◌≤◌, ◌<◌}
use native.Mathlib.Nat.{div-mul-le_self, lt-div-mul-add, div-eq_of_lt-le, mul-pos, mul-le-mul_right, mul-lt-mul_of_pos_right, le_of_mul-le-mul_right, lt_of_mul-lt-mul_right}
use native.Mathlib.Omega.{arith}
use mathlib.Core.Path.{◌≡◌, refl, sym, ap, subst, ◌∙◌}
use mathlib.Core.List.{[], ◌∷◌}
use lib.Dec.{T}
use lib.IntN.{ℤ, pos, negsuc, neg_ℤ, nat_abs, ◌*ℤ◌}
use lib.Signed.{non_neg, quot_z}
use Rattle.sizes.proofs.Size.{size_neg, size_mul}
use Rattle.sizes.proofs.Algebra.{same_terms, var, ⊝, ◌⊗◌}
use Rattle.lines.specs.Meaning.{Cut}

-- ---- signs
-- the opposite of a number above 0 is below 0
below : (n : ℕ) → 0 < n → T (non_neg (neg_ℤ (pos n))) → ⊥
below zero h t = let z : ⊥ = omega arith in z
below (suc n) h t = t

both_neg : (m n : ℕ) → T (non_neg (neg_ℤ (pos m) *ℤ neg_ℤ (pos n)))
both_neg m n = subst (λ (z : ℤ). T (non_neg z)) (sym (same_terms (pos m ∷ pos n ∷ []) (⊝ (var 0) ⊗ ⊝ (var 1)) (var 0 ⊗ var 1) refl)) tt

square : (v : ℤ) → v *ℤ v ≡ pos (nat_abs v * nat_abs v)
square (pos n) = refl
square (negsuc n) = refl

-- a square does not change the side
times_square : (z v : ℤ) → T (non_neg z) → T (non_neg (z *ℤ (v *ℤ v)))
times_square (pos a) v t = rw (square v) tt
times_square (negsuc a) v t = absurd t

less_square : (z v : ℤ) → 0 < nat_abs v → T (non_neg (z *ℤ (v *ℤ v))) → T (non_neg z)
less_square (pos a) v h t = tt
less_square (negsuc a) v h t =
    let k : 0 < nat_abs v * nat_abs v = mul-pos h h in
    below (suc a * (nat_abs v * nat_abs v)) (mul-pos (omega arith) k) (rw (square v) at t)

same_side : (c e m : ℤ) → nat_abs c ≡ nat_abs e → (0 < nat_abs c → 0 < nat_abs m) → T (non_neg (c *ℤ m)) → T (non_neg (e *ℤ m)) → c ≡ e
same_side (pos a) (pos b) m h f s t = ap pos h
same_side (negsuc a) (negsuc b) m h f s t = ap negsuc (omega arith)
same_side (pos a) (negsuc b) (pos n) h f s t = let k = f (omega arith) in absurd (below (suc b * n) (mul-pos (omega arith) k) t)
same_side (pos a) (negsuc b) (negsuc n) h f s t = absurd (below (a * suc n) (mul-pos (omega arith) (omega arith)) s)
same_side (negsuc a) (pos b) (pos n) h f s t = let k = f (omega arith) in absurd (below (suc a * n) (mul-pos (omega arith) k) s)
same_side (negsuc a) (pos b) (negsuc n) h f s t = absurd (below (b * suc n) (mul-pos (omega arith) (omega arith)) t)

-- ---- the quotient
quot_size : (n d : ℤ) → nat_abs (quot_z n d) ≡ nat_abs n / nat_abs d
quot_size (pos a) (pos b) = refl
quot_size (pos a) (negsuc b) = size_neg (pos (a / suc b))
quot_size (negsuc a) (pos b) = size_neg (pos (suc a / b))
quot_size (negsuc a) (negsuc b) = refl

quot_side : (n d : ℤ) → T (non_neg (quot_z n d *ℤ (n *ℤ d)))
quot_side (pos a) (pos b) = tt
quot_side (pos a) (negsuc b) = both_neg (a / suc b) (a * suc b)
quot_side (negsuc a) (pos b) = both_neg (suc a / b) (suc a * b)
quot_side (negsuc a) (negsuc b) = tt

pub quot_cut : (n d : ℤ) → 0 < nat_abs d → Cut n d (quot_z n d)
quot_cut n d h =
    record {
      low = rw (quot_size n d) (div-mul-le_self (nat_abs n) (nat_abs d));
      high = rw (quot_size n d) (let k = lt-div-mul-add {a = nat_abs n} h in omega arith);
      side = quot_side n d;
    }

pub cut_only : (n d c e : ℤ) → Cut n d c → Cut n d e → c ≡ e
cut_only n d c e p q =
    let ec = div-eq_of_lt-le (nat_abs d) p.low p.high in
    let ee = div-eq_of_lt-le (nat_abs d) q.low q.high in
    same_side c e (n *ℤ d) (sym ec ∙ ee) (λ h. above h) p.side q.side
  where
    nonzero : (k : ℕ) → nat_abs n < k * nat_abs d → 0 < nat_abs d
    nonzero k h = go (nat_abs d) h
      where
        go : (m : ℕ) → nat_abs n < k * m → 0 < m
        go zero h = omega arith
        go (suc m) h = omega arith

    above : 0 < nat_abs c → 0 < nat_abs (n *ℤ d)
    above h =
        let k = nonzero (nat_abs c + 1) p.high in
        let l = mul-pos h k in
        let m : 1 ≤ nat_abs n = let u = p.low in omega arith in
        rw (size_mul n d) (mul-pos m k)

-- equal fractions have the same cut
pub cut_same : (n d m e c : ℤ) → n *ℤ e ≡ m *ℤ d → 0 < nat_abs d → 0 < nat_abs e → Cut n d c → Cut m e c
cut_same n d m e c h dz ez p =
    let s : nat_abs n * nat_abs e ≡ nat_abs m * nat_abs d = sym (size_mul n e) ∙ ap nat_abs h ∙ size_mul m d in
    let low = mul-le-mul_right (nat_abs e) p.low in
    let high = mul-lt-mul_of_pos_right p.high ez in
    record {
      low = le_of_mul-le-mul_right {m = nat_abs c * nat_abs e} {n = nat_abs m} {k = nat_abs d} (omega arith) dz;
      high = lt_of_mul-lt-mul_right (nat_abs d) {m = nat_abs m} {n = (nat_abs c + 1) * nat_abs e} (omega arith);
      side = less_square (c *ℤ (m *ℤ e)) d dz (subst (λ (z : ℤ). T (non_neg z)) turned (times_square (c *ℤ (n *ℤ d)) e p.side));
    }
  where
    turned : c *ℤ (n *ℤ d) *ℤ (e *ℤ e) ≡ c *ℤ (m *ℤ e) *ℤ (d *ℤ d)
    turned =
        same_terms (c ∷ n ∷ d ∷ e ∷ []) (var 0 ⊗ (var 1 ⊗ var 2) ⊗ (var 3 ⊗ var 3)) (var 0 ⊗ var 2 ⊗ var 3 ⊗ (var 1 ⊗ var 3)) refl
        ∙ ap (λ z. c *ℤ d *ℤ e *ℤ z) h
        ∙ same_terms (c ∷ m ∷ d ∷ e ∷ []) (var 0 ⊗ var 2 ⊗ var 3 ⊗ (var 1 ⊗ var 2)) (var 0 ⊗ (var 1 ⊗ var 3) ⊗ (var 2 ⊗ var 2)) refl
