-- What the code holds of a signed number is its bits: each operation reads two numbers back from theirs.
-- A law for each operation says which number that gives, and how large it is at most. Assumes nothing.
use Prim.Native.Nat.{ℕ, ◌+◌, ◌*◌, ◌^◌, ◌≤◌, ◌<◌}
use native.Mathlib.Nat.{mul-le-mul, lt_of_le_of_lt}
use native.Mathlib.Omega.{arith}
use mathlib.Core.Path.{◌≡◌, refl, sym, subst, ◌∙◌, ap, ap₂}
use lib.IntN.{ℤ, pos, nat_abs, neg_ℤ, ◌+ℤ◌, ◌-ℤ◌, ◌*ℤ◌, +ℤ_idl}
use mir.Syntax.{w32}
use mir.Val.{SFits, to_z, of_z}
use mir.Facts.{to_z-of_z}
use Rattle.sizes.proofs.Size.{size_add, size_sub, size_mul, size_neg, fits_size}

-- z, read back from its bits
abbrev pub back : ℤ → ℤ
back z = to_z w32 (of_z w32 z)

-- the code's number z is m, which is at most n away from 0
pub record Is (z m : ℤ) (n : ℕ) : Type 0 where
  pub same : z ≡ m
  pub near : nat_abs m ≤ n
  pub low : n < 2 ^ 31

-- a number that the code is given, and one that a call answers
pub is_own : {z : ℤ} {n : ℕ} → nat_abs z ≤ n → n < 2 ^ 31 → Is z z n
is_own h l = record { same = refl; near = h; low = l }

pub is_answer : {z m : ℤ} {n : ℕ} → z ≡ m → nat_abs m ≤ n → n < 2 ^ 31 → Is z m n
is_answer e h l = record { same = e; near = h; low = l }

module _ {z m : ℤ} {n : ℕ} (I : Is z m n) where
  pub is_fits : SFits w32 z
  is_fits = subst (SFits w32) (sym I.same) (fits_size (lt_of_le_of_lt I.near I.low))

  pub is_back : back z ≡ m
  is_back = to_z-of_z is_fits ∙ I.same

  -- the code's opposite is 0 less the number
  pub is_opposite : Is (pos 0 -ℤ back z) (neg_ℤ m) n
  is_opposite =
      record {
        same = +ℤ_idl (neg_ℤ (back z)) ∙ ap neg_ℤ is_back;
        near = let h = size_neg m in omega (arith, I.near);
        low = I.low;
      }

module _ {a b m k : ℤ} {n j : ℕ} (A : Is a m n) (B : Is b k j) where
  pub is_add : n + j < 2 ^ 31 → Is (back a +ℤ back b) (m +ℤ k) (n + j)
  is_add l =
      record {
        same = ap₂ (λ (u v : ℤ). u +ℤ v) (is_back A) (is_back B);
        near = let h = size_add m k in omega (arith, A.near, B.near);
        low = l;
      }

  pub is_sub : n + j < 2 ^ 31 → Is (back a -ℤ back b) (m -ℤ k) (n + j)
  is_sub l =
      record {
        same = ap₂ (λ (u v : ℤ). u -ℤ v) (is_back A) (is_back B);
        near = let h = size_sub m k in omega (arith, A.near, B.near);
        low = l;
      }

  pub is_mul : n * j < 2 ^ 31 → Is (back a *ℤ back b) (m *ℤ k) (n * j)
  is_mul l =
      record {
        same = ap₂ (λ (u v : ℤ). u *ℤ v) (is_back A) (is_back B);
        near = let h = size_mul m k in omega (arith, mul-le-mul A.near B.near);
        low = l;
      }
