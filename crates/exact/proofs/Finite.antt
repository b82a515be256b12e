-- A quotient of whole numbers up to 2 ^ 53 is finite, and a finite float times 0 is a zero. Assumes nothing.
use Prim.Native.Nat.{ℕ, zero, suc, ◌+◌, ◌*◌, ◌^◌, ◌≤◌, ◌<◌, zero-le}
use native.Mathlib.Nat.{le_refl, zero-lt-suc, mul-zero, zero-mul, mul-le-mul, mul-pos}
use mathlib.Core.Path.{◌≡◌, refl, sym, subst}
use mathlib.Core.Bool.{Bool, true, false, cond}
use lib.Dec.{T, ltb}
use lib.IntN.{pos}
use lib.Ieee as Ieee
use lib.Ieee.{Float, nan, inf, fin, binary64, odd, units, round, le, of_int, low, prec, emax, unlike, up, down}
use lib.Ieee.Exact.{HasValue}
use lib.Ieee.Fits.{round_is, down_pos}
use lib.Ieee.Back.{round_whole}
use lib.Ieee.Order.{round_mono}
use lib.Ieee.Scale.{finite}
use Rattle.exact.specs.Signed.{Signed, IsWhole, quotient}
use Rattle.exact.proofs.Step.{exactly, reduced}
use Rattle.exact.proofs.Zeros.{zero_of}

odd_finite : (d : ℕ) (s : Bool) (q k l : ℕ) → T (finite (odd d s q k l))
unfolding odd
odd_finite d s zero k l = tt
odd_finite d s (suc q) k l = tt

-- rounded with no sign it is no more than y, so it is finite with any sign
units_finite : (s : Bool) (q k : ℕ) (y : Float) (n : ℕ) → HasValue y false n 1 → T (le (units binary64 false q k) y) → T (finite (units binary64 s q k))
unfolding units le
units_finite s q k nan n v = absurd v
units_finite s q k (inf t) n v = absurd v
units_finite s q k (fin t m e) n v = go (ltb (q * 2 ^ k) (2 ^ (low binary64 + suc (emax binary64))))
  where
    go : (b : Bool) → T (le (cond b (odd (suc (prec binary64)) false q k (low binary64)) (inf false)) (fin t m e)) → T (finite (cond b (odd (suc (prec binary64)) s q k (low binary64)) (inf s)))
    go true h = odd_finite (suc (prec binary64)) s q k (low binary64)
    go false h = h

pub quotient_finite : (a : Signed) (n : ℕ) → a.size ≤ 2 ^ 53 → 0 < n → T (finite (quotient a n))
unfolding quotient
quotient_finite a n h p =
    let most = round binary64 false (2 ^ 53) 1 in
    let below : a.size * 1 ≤ 2 ^ 53 * n = mul-le-mul h p in
    let order : T (le (round binary64 false a.size n) most) = round_mono binary64 a.size n (2 ^ 53) 1 p (zero-lt-suc 0) below in
    rw (round_is binary64 a.negative a.size n)
    (units_finite a.negative _ _ most (2 ^ 53) (round_whole binary64 false (2 ^ 53) (le_refl (2 ^ 53))) (rw (round_is binary64 false a.size n) at order))

-- 0 as a float
pub zero_is : of_int binary64 (pos 0) ≡ fin false 0 (pos 0)
unfolding of_int
zero_is = refl

pub times_nothing : (x : Float) → T (finite x) → (s : Bool) × IsWhole (Ieee.mul binary64 x (fin false 0 (pos 0))) (zero_of s)
unfolding Ieee.mul
times_nothing nan h = absurd h
times_nothing (inf s) h = absurd h
times_nothing (fin s m e) h =
    let none : m * up e * (0 * 1) ≡ 0 * (down e * 1) = simp (mul-zero, zero-mul) in
    (unlike s false, subst (λ (z : Float). IsWhole z (zero_of (unlike s false))) (sym (reduced (unlike s false) (m * up e * (0 * 1)) 0 (down e * 1) (mul-pos (down_pos e) (zero-lt-suc 0)) none)) (exactly (zero_of (unlike s false)) zero-le))
