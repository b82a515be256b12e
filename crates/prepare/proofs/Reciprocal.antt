-- The threshold with no division: the reciprocal of s stands for the division by s, a product on each side for the comparison. Assumes nothing.
use Prim.Native.Nat.{ℕ, ◌+◌, ◌-◌, ◌*◌, ◌/◌, ◌^◌, ◌≤◌, ◌<◌}
use mathlib.Core.Path.{◌≡◌, refl, sym, ap, ◌∙◌}
use mathlib.Core.Bool.{Bool, true, false}
use native.Mathlib.Omega.{arith}
use native.Mathlib.Nat.{mul_assoc, mul_comm, mul-le-mul, mul-le-mul_left, div-mul-le_self, lt-div-mul-add, le_of_mul-le-mul_right, lt_of_mul-lt-mul_right, mul-le-mul_right, div-eq_of_lt-le, div-le_of_le-mul, div-lt_iff_lt-mul, le-div_iff_mul-le, mul-div-mul_left}
use lib.Dec.{ltb, leb}
use borrow.Author.Tests.{ltb-true, ltb-false, le-leb, lt-leb}
use Rattle.prepare.specs.Threshold.{step}

-- 2^32 x (s - 1) / s, rounded up
abbrev pub reciprocal_of : ℕ → ℕ
reciprocal_of s = (s - 1) * (2 ^ 32 + 1) / s

-- a product of three, the last two changed over
turn : (a b c : ℕ) → a * b * c ≡ a * c * b
turn a b c = mul_assoc a b c ∙ ap (λ (n : ℕ). a * n) (mul_comm b c) ∙ sym (mul_assoc a c b)

-- with q x s <= average x (s - 1) < (q + 1) x s and k x s between 2^32 x (s - 1) and s - 1 more, the product average x k lies between q x 2^32 and (q + 1) x 2^32
between : (s average q k : ℕ) → 1 ≤ s → s ≤ 100 → average ≤ 255 * s
    → q * s ≤ average * (s - 1) → average * (s - 1) < q * s + s → k * s ≤ (s - 1) * (2 ^ 32 + 1) → (s - 1) * (2 ^ 32 + 1) < k * s + s
    → average * k / 2 ^ 32 ≡ q
between s average q k some few low q-low q-high k-low k-high =
    let few-more : s - 1 ≤ 99 = omega arith in
    let small : average * (s - 1) ≤ 25500 * 99 = mul-le-mul {n₂ = 25500} (omega arith) few-more in
    let up : average * ((s - 1) * 2 ^ 32) ≤ average * (k * s) = mul-le-mul_left average (omega arith) in
    let down : average * (k * s) ≤ average * ((s - 1) * (2 ^ 32 + 1)) = mul-le-mul_left average k-low in
    let up_is = mul_assoc average (s - 1) (2 ^ 32) in
    let down_is = mul_assoc average (s - 1) (2 ^ 32 + 1) in
    let product = mul_assoc average k s in
    let floor = turn q s (2 ^ 32) in
    let ceiling = turn (q + 1) s (2 ^ 32) in
    let above : q * 2 ^ 32 * s ≤ average * k * s = omega arith in
    let below : average * k * s < (q + 1) * 2 ^ 32 * s = omega arith in
    div-eq_of_lt-le (2 ^ 32) (le_of_mul-le-mul_right {k = s} above some) (lt_of_mul-lt-mul_right s below)

pub reciprocal : (s average : ℕ) → 1 ≤ s → s ≤ 100 → average ≤ 255 * s → average * reciprocal_of s / 2 ^ 32 ≡ average * (s - 1) / s
reciprocal s average some few low =
    between s average (average * (s - 1) / s) (reciprocal_of s) some few low
    (div-mul-le_self (average * (s - 1)) s)
    (lt-div-mul-add some)
    (div-mul-le_self ((s - 1) * (2 ^ 32 + 1)) s)
    (lt-div-mul-add some)

pub reciprocal_low : (s : ℕ) → 1 ≤ s → s ≤ 100 → reciprocal_of s < 2 ^ 32
reciprocal_low s some few = (div-lt_iff_lt-mul some).1 (omega arith)

-- an average stays low
pub step_low : (s average pixel : ℕ) → 1 ≤ s → average ≤ 255 * s → pixel ≤ 255 → step s average pixel ≤ 255 * s
unfolding step
step_low s average pixel some low dark =
    let product : average * (s - 1) ≤ s * (255 * (s - 1)) = rw (← mul_assoc s 255 (s - 1), mul_comm s 255) (mul-le-mul_right (s - 1) low) in
    let quotient : average * (s - 1) / s ≤ 255 * (s - 1) = div-le_of_le-mul s product in
    omega arith

-- so an average goes one pixel on by a product with the reciprocal, and stays low
pub step_by_reciprocal : (s average k pixel next : ℕ) → 1 ≤ s → s ≤ 100 → average ≤ 255 * s → pixel ≤ 255 → k ≡ reciprocal_of s → next ≡ average * k / 2 ^ 32 + pixel → (next ≡ step s average pixel) × (next ≤ 255 * s)
unfolding step
step_by_reciprocal s average k pixel next some few low dark e n =
    let is : next ≡ step s average pixel = n ∙ rw (e, reciprocal s average some few low) in
    (is, rw is (step_low s average pixel some low dark))

-- below sum x 95 / (200 x s), with no division
pub below : (s pixel sum : ℕ) → 1 ≤ s → ltb pixel (sum * 95 / (200 * s)) ≡ leb ((pixel + 1) * (40 * s)) (sum * 19)
below s pixel sum some = go (ltb pixel (sum * 95 / (200 * s))) refl
  where
    some_more : 0 < 40 * s
    some_more = omega arith

    fifth : sum * 95 / (200 * s) ≡ sum * 19 / (40 * s)
    fifth =
        let n : sum * 95 ≡ 5 * (sum * 19) = omega arith in
        let d : 200 * s ≡ 5 * (40 * s) = omega arith in
        rw (n, d, mul-div-mul_left {m = 5} (sum * 19) (40 * s) (omega arith))

    go : (t : Bool) → ltb pixel (sum * 95 / (200 * s)) ≡ t → t ≡ leb ((pixel + 1) * (40 * s)) (sum * 19)
    go true e =
        let h = ltb-true pixel (sum * 95 / (200 * s)) e in
        let up : pixel + 1 ≤ sum * 19 / (40 * s) = omega (arith, fifth) in
        sym (le-leb ((pixel + 1) * (40 * s)) (sum * 19) ((le-div_iff_mul-le some_more).0 up))
    go false e =
        let h = ltb-false pixel (sum * 95 / (200 * s)) e in
        let down : sum * 19 / (40 * s) < pixel + 1 = omega (arith, fifth) in
        sym (lt-leb ((pixel + 1) * (40 * s)) (sum * 19) ((div-lt_iff_lt-mul some_more).0 down))
