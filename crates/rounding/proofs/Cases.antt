-- What each test of `nearest` says of a float, by cases on it. Assumes nothing.
use Rattle.std.specs.Prelude.{Some, None}
use Prim.Native.Nat.{ℕ, suc, ◌+◌, ◌*◌, ◌^◌, ◌≤◌, ◌<◌}
use native.Mathlib.Nat.{mul-pos, div-lt_iff_lt-mul, le-div_iff_mul-le}
use native.Mathlib.Omega.{arith}
use mathlib.Core.Path.{◌≡◌, refl, sym, subst}
use mathlib.Core.Bool.{true, false, true≢false}
use lib.Dec.{T, lt→ltb, lit<}
use lib.IntN.{pos, negsuc, neg_ℤ}
use lib.Ieee.{Float, nan, inf, fin, up, down, lt, eq, ne, neg}
use lib.Ieee.Compare.{differs_from_itself}
use lib.Ieee.Fits.{down_pos}
use borrow.Author.Tests.{ltb-true, ltb-false, lt-ltb, le-ltb, le-leb, lt-leb}
use Rattle.rounding.specs.Nearest.{half_up, size_of, nearest_of, held}

abbrev pub nought : Float
nought = fin false 0 (pos 0)

-- 2 ^ 31 - 1/2, and 2 ^ 31 + 1/2
abbrev pub top : Float
top = fin false 4294967295 (negsuc 0)

abbrev pub bottom : Float
bottom = fin false 4294967297 (negsuc 0)

below_n : (a b n : ℕ) → 0 < b → 2 * a + b < n * (2 * b) → half_up a b < n
unfolding half_up
below_n a b n p h = (div-lt_iff_lt-mul (mul-pos (lit< tt) p)).1 h

from_n : (a b n : ℕ) → 0 < b → n * (2 * b) ≤ 2 * a + b → n ≤ half_up a b
unfolding half_up
from_n a b n p h = (le-div_iff_mul-le (mul-pos (lit< tt) p)).1 h

pub record Up (x : Float) : Type 0 where
  pub low : T (lt nought x)
  pub high : T (lt x bottom)
  pub at : nearest_of x ≡ Some (pos (size_of x))
  pub small : size_of x < 2 ^ 31

pub up_at : (x : Float) → lt nought x ≡ true → lt x top ≡ true → Up x
unfolding lt nearest_of size_of held
up_at nan p q = absurd (true≢false (sym p))
up_at (inf true) p q = absurd (true≢false (sym p))
up_at (inf false) p q = absurd (true≢false (sym q))
up_at (fin true m e) p q = absurd (true≢false (sym p))
up_at (fin false m e) p q =
    let d = down_pos e in
    let h = ltb-true (m * up e * 2) (4294967295 * 1 * down e) q in
    let s : half_up (m * up e) (down e) < 2 ^ 31 = below_n (m * up e) (down e) (2 ^ 31) d (omega arith) in
    record {
      low = subst T (sym p) tt;
      high = lt→ltb (m * up e * 2) (4294967297 * 1 * down e) (omega arith);
      at = rw (lt-ltb (half_up (m * up e) (down e)) (2 ^ 31) s);
      small = s;
    }

pub up_off : (x : Float) → lt nought x ≡ true → lt x top ≡ false → nearest_of x ≡ None
unfolding lt nearest_of held
up_off nan p q = refl
up_off (inf s) p q = refl
up_off (fin true m e) p q = absurd (true≢false (sym p))
up_off (fin false m e) p q =
    let h = ltb-false (m * up e * 2) (4294967295 * 1 * down e) q in
    let s : 2 ^ 31 ≤ half_up (m * up e) (down e) = from_n (m * up e) (down e) (2 ^ 31) (down_pos e) (omega arith) in
    rw (le-ltb (half_up (m * up e) (down e)) (2 ^ 31) s)

pub record Down (x : Float) : Type 0 where
  pub low : T (lt nought (neg x))
  pub high : T (lt (neg x) bottom)
  pub at : nearest_of x ≡ Some (neg_ℤ (pos (size_of (neg x))))
  pub small : size_of (neg x) ≤ 2 ^ 31

pub down_at_lem : (x : Float) → lt x nought ≡ true → lt (neg bottom) x ≡ true → Down x
unfolding lt nearest_of size_of held neg
down_at_lem nan p q = absurd (true≢false (sym p))
down_at_lem (inf true) p q = absurd (true≢false (sym q))
down_at_lem (inf false) p q = absurd (true≢false (sym p))
down_at_lem (fin false m e) p q =
    let h = ltb-true (m * up e * 1) (0 * 1 * down e) p in
    let z : ⊥ = omega arith in
    absurd z
down_at_lem (fin true m e) p q =
    let d = down_pos e in
    let h = ltb-true (m * up e * 2) (4294967297 * 1 * down e) q in
    let k = ltb-true 0 (m * up e * 1 + 0 * 1 * down e) p in
    let s : half_up (m * up e) (down e) < suc (2 ^ 31) = below_n (m * up e) (down e) (suc (2 ^ 31)) d (omega arith) in
    let s' : half_up (m * up e) (down e) ≤ 2 ^ 31 = omega arith in
    record {
      low = lt→ltb (0 * 1 * down e) (m * up e * 1) (omega arith);
      high = lt→ltb (m * up e * 2) (4294967297 * 1 * down e) (omega arith);
      at = rw (le-leb (half_up (m * up e) (down e)) (2 ^ 31) s');
      small = s';
    }

pub down_off : (x : Float) → lt x nought ≡ true → lt (neg bottom) x ≡ false → nearest_of x ≡ None
unfolding lt nearest_of held neg
down_off nan p q = refl
down_off (inf s) p q = refl
down_off (fin false m e) p q =
    let h = ltb-true (m * up e * 1) (0 * 1 * down e) p in
    let z : ⊥ = omega arith in
    absurd z
down_off (fin true m e) p q =
    let h = ltb-false (m * up e * 2) (4294967297 * 1 * down e) q in
    let s : suc (2 ^ 31) ≤ half_up (m * up e) (down e) = from_n (m * up e) (down e) (suc (2 ^ 31)) (down_pos e) (omega arith) in
    rw (lt-leb (half_up (m * up e) (down e)) (2 ^ 31) s)

-- neither above nor below 0: it is no number, or 0
pub rest_nan : (x : Float) → ne x x ≡ true → nearest_of x ≡ None
unfolding nearest_of
rest_nan x h = rw (differs_from_itself x (subst T (sym h) tt))

pub rest_zero : (x : Float) → lt nought x ≡ false → lt x nought ≡ false → ne x x ≡ false → nearest_of x ≡ Some (pos 0)
unfolding lt nearest_of held ne eq
rest_zero nan p q r = absurd (true≢false r)
rest_zero (inf true) p q r = absurd (true≢false q)
rest_zero (inf false) p q r = absurd (true≢false p)
rest_zero (fin false m e) p q r =
    let h = ltb-false (0 * 1 * down e) (m * up e * 1) p in
    let d = down_pos e in
    let s = below_n (m * up e) (down e) 1 d (omega arith) in
    let z : half_up (m * up e) (down e) ≡ 0 = omega arith in
    rw z
rest_zero (fin true m e) p q r =
    let h = ltb-false 0 (m * up e * 1 + 0 * 1 * down e) q in
    let d = down_pos e in
    let s = below_n (m * up e) (down e) 1 d (omega arith) in
    let z : half_up (m * up e) (down e) ≡ 0 = omega arith in
    rw z
