-- Which place along a side a float rounds to, by what tests say of it. Assumes nothing.
use Rattle.std.specs.Prelude.{Option, Some}
use Prim.Native.Nat.{ℕ, zero, suc, ◌+◌, ◌*◌, ◌^◌, ◌≤◌, ◌<◌, zero-le}
use native.Mathlib.Omega.{arith}
use mathlib.Core.Path.{◌≡◌, sym}
use mathlib.Core.Bool.{true, false, true≢false}
use lib.IntN.{ℤ, pos, negsuc, neg_ℤ}
use lib.Signed.{lt_z}
use lib.Ieee.{Float, nan, inf, fin, up, down, lt}
use lib.Ieee.Fits.{down_pos}
use borrow.Author.Tests.{ltb-true, ltb-false, le-ltb}
use Rattle.rounding.specs.Nearest.{NearestTo, half_up, held, nearest_of}
use Rattle.rounding.proofs.Only.{half_up_only, nearest_at}
use Rattle.cell_fitness.specs.Along.{along}

abbrev nought : Float
nought = fin false 0 (pos 0)

abbrev minus_half : Float
minus_half = fin true 1 (negsuc 0)

-- above 0 no coordinate is below 0
pub not_below : (x : Float) (z : ℤ) → lt nought x ≡ true → nearest_of x ≡ Some z → lt_z z (pos 0) ≡ false
unfolding lt
not_below nan z p e = absurd (true≢false (sym p))
not_below (inf s) z p e = absurd (nearest_at (inf s) z e).0
not_below (fin true m x) z p e = absurd (true≢false (sym p))
not_below (fin false m x) z p e = let r = (nearest_at (fin false m x) z e).0 in rw r.2 (le-ltb r.0 0 zero-le)

pub along_it : (w : Option ℤ) (n : ℕ) (z : ℤ) → w ≡ Some z → pos n ≡ z → n ≡ along w
unfolding along
along_it w n z e h = rw (e, ← h)

-- less than a half from 0 it rounds to 0
less_than_half : (a b : ℕ) → 2 * a < b → half_up a b ≡ 0
less_than_half a b h = sym (half_up_only {a = a} {b = b} {n = 0} (record { not_above = omega arith; not_below = omega arith }))

pub first_place : (x : Float) → lt nought x ≡ false → lt minus_half x ≡ true → 0 ≡ along (nearest_of x)
unfolding lt nearest_of held along
first_place nan p q = absurd (true≢false (sym q))
first_place (inf true) p q = absurd (true≢false (sym q))
first_place (inf false) p q = absurd (true≢false p)
first_place (fin false m x) p q =
    let h = ltb-false (0 * 1 * down x) (m * up x * 1) p in
    let d = down_pos x in
    rw (less_than_half (m * up x) (down x) (omega arith))
first_place (fin true m x) p q =
    let h = ltb-true (m * up x * 2) (1 * 1 * down x) q in
    rw (less_than_half (m * up x) (down x) (omega arith))

-- from -1/2 down a coordinate is below 0
below_zero : (a b n : ℕ) (z : ℤ) → b ≤ 2 * a → NearestTo a b n → z ≡ neg_ℤ (pos n) → 2 ^ 31 ≡ along (Some z)
unfolding along
below_zero a b zero z h near e = let k = near.not_below in let z : ⊥ = omega arith in absurd z
below_zero a b (suc n) z h near e = rw e

pub place_before : (x : Float) (z : ℤ) → lt minus_half x ≡ false → nearest_of x ≡ Some z → 2 ^ 31 ≡ along (Some z)
unfolding lt
place_before nan z p e = absurd (nearest_at nan z e).0
place_before (inf s) z p e = absurd (nearest_at (inf s) z e).0
place_before (fin false m x) z p e =
    let h = ltb-false 0 (1 * 1 * down x + m * up x * 2) p in
    let d = down_pos x in
    let z : ⊥ = omega arith in
    absurd z
place_before (fin true m x) z p e =
    let r = (nearest_at (fin true m x) z e).0 in
    let h = ltb-false (m * up x * 2) (1 * 1 * down x) p in
    below_zero (m * up x) (down x) r.0 z (omega arith) r.1 r.2

-- a coordinate is an `i32`
pub few : (x : Float) (n : ℕ) → nearest_of x ≡ Some (pos n) → n < 2 ^ 31
few x n e = (nearest_at x (pos n) e).1.sfits
