-- Header numbers stay below 100,000: each has five digits at most, and its digits bound it. Assumes nothing.
use Prim.Native.Nat.{ℕ, zero, suc, ◌+◌, ◌*◌, ◌≤◌, ◌<◌}
use native.Mathlib.Nat.{mul-le-mul}
use native.Mathlib.Omega.{arith}
use native.Mathlib.Numerals.{add-one}
use mathlib.Core.Path.{◌≡◌, refl, sym}
use mathlib.Core.Bool.{Bool, true, false, ◌&&◌, true≢false}
use borrow.Author.Tests.{ltb-true, leb-true}
use Rattle.netpbm.specs.Form.{digit, bit}
use Rattle.netpbm.specs.Machine.{none, takes, longer, decades, Below, takes_pixel}
use Rattle.netpbm.specs.declared.Number.{Number}
use Rattle.netpbm.specs.declared.Body.{Body}

-- two tests that hold together hold each
pub both : (a b : Bool) → (a && b) ≡ true → (a ≡ true) × (b ≡ true)
both true true e = (refl, refl)
both true false e = absurd (true≢false (sym e))
both false b e = absurd (true≢false (sym e))

pub digit_range : (b : ℕ) → digit b ≡ true → (48 ≤ b) × (b ≤ 57)
unfolding digit
digit_range b e = let t = both _ _ e in (leb-true 48 b t.0, leb-true b 57 t.1)

pub bit_range : (b : ℕ) → bit b ≡ true → (48 ≤ b) × (b ≤ 49)
unfolding bit
bit_range b e = let t = both _ _ e in (leb-true 48 b t.0, leb-true b 49 t.1)

pub takes_told : (n : Number) (b : ℕ) → takes n b ≡ true → (n.digits < 5) × (digit b ≡ true)
unfolding takes
takes_told n b e = let t = both _ _ e in (ltb-true n.digits 5 t.0, t.1)

pub takes_pixel_told : (p : Body) (b : ℕ) → takes_pixel p b ≡ true → (p.count < p.width * p.height) × (bit b ≡ true)
unfolding takes_pixel
takes_pixel_told p b e = let t = both _ _ e in (ltb-true p.count (p.width * p.height) t.0, t.1)

pub few_decades : (n : ℕ) → n < 5 → decades n ≤ 10000
unfolding decades
few_decades zero h = omega arith
few_decades (suc zero) h = omega arith
few_decades (suc (suc zero)) h = omega arith
few_decades (suc (suc (suc zero))) h = omega arith
few_decades (suc (suc (suc (suc zero)))) h = omega arith
few_decades (suc (suc (suc (suc (suc n))))) h = absurd (omega arith)

all_decades : (n : ℕ) → n ≤ 5 → decades n ≤ 100000
unfolding decades
all_decades zero h = omega arith
all_decades (suc n) h = let e = few_decades n (omega arith) in omega (arith, e)

pub below_most : (n : Number) → Below n → n.value < 100000
below_most n w = omega (arith, all_decades n.digits w.few, w.low)

pub none_below : Below none
unfolding decades
none_below = record { few = omega arith; low = omega arith }

pub longer_below : (n : Number) (b : ℕ) → Below n → takes n b ≡ true → Below (longer n b)
unfolding decades
longer_below n b w e =
    let t = takes_told n b e in
    let d = digit_range b t.1 in
    let more : decades (n.digits + 1) ≡ 10 * decades n.digits = rw (add-one n.digits) refl in
    record { few = omega (arith, t.0); low = omega (arith, more, w.low, d.0, d.1) }

-- the product of two numbers below 100,000
pub mul_lt_most : (w h : ℕ) → w < 100000 → h < 100000 → w * h ≤ 9999800001
mul_lt_most w h a b =
    let wide : w ≤ 99999 = omega arith in
    let high : h ≤ 99999 = omega arith in
    omega (arith, mul-le-mul wide high)
