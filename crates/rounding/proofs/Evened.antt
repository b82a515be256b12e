-- From 2 ^ 52 on the floats are the whole numbers: adding that to a float below 2 ^ 31 + 1/2 rounds it, a half to the even number, and taking it off again is exact. Assumes nothing.
use Prim.Native.Nat.{ℕ, zero, suc, ◌+◌, ◌-◌, ◌*◌, ◌/◌, ◌%◌, ◌^◌, ◌≤◌, ◌<◌, min, compare, Ordering}
use native.Mathlib.Nat.{le_trans, mul-one, mul-pos, mul-le-mul_right, mul-lt-mul_of_pos_right, mul_assoc, mul_comm, mul_right_comm, add-mul, div-lt_iff_lt-mul, le-div_iff_mul-le, div-add-mod', mod-lt, lt_of_lt_of_le, lt_irrefl, le_of_mul-le-mul_right, lt_of_mul-lt-mul_right, eq_of_mul-eq-mul_right, mul-div_cancel, mul-mod_left}
use native.Mathlib.Decide.{dec_le}
use native.Mathlib.Omega.{arith}
use mathlib.Core.Path.{◌≡◌, sym, ap, ◌∙◌, subst}
use mathlib.Core.Bool.{Bool, true, false, not, true≢false}
use lib.Arith.{lt_of_le-ne}
use lib.Dec.{T, is_le, compare_is_eq, eqb, ltb→lt, leb→le, nleb→lt, eqb→eq, eqb_refl, lit<, lit≤}
use lib.IntN.{ℤ, pos, negsuc}
use lib.Pow.{pow_mono}
use lib.Ieee.{Float, nan, inf, fin, binary64, up, down, size, nearest, round, sum, add, sub, neg, lt, whole, in_unsigned, to_unsigned}
use borrow.Author.Tests.{lt-ltb, le-ltb, le-leb, ltb-true, ltb-false}
use lib.Ieee.Digits.{size-lt, size-le}
use lib.Ieee.Exact.{HasValue, round_exact}
use lib.Ieee.Fits.{down_pos}
use lib.Ieee.Nearest.{closest, closest_same}
use lib.Ieee.Scale.{grid, round_val}
use Rattle.rounding.specs.Nearest.{NearestTo, size_of}
use Rattle.rounding.proofs.Only.{half_up_only}

-- ---- the nearest whole number, a half to the even one: it is at most a half away
abbrev Cmp : Ordering → ℕ → ℕ → Type 0
Cmp Ordering.lt a b = a < b
Cmp Ordering.eq a b = a ≡ b
Cmp Ordering.gt a b = b < a

compared : (a b : ℕ) → Cmp (compare a b) a b
compared a b = go (compare a b) (leb→le a b) (nleb→lt a b) (eqb→eq a b) (λ (e : a ≡ b). subst (λ (x : ℕ). T (eqb a x)) e (eqb_refl a))
  where
    go : (o : Ordering) → (T (is_le o) → a ≤ b) → (T (not (is_le o)) → b < a) → (T (compare_is_eq o) → a ≡ b) → (a ≡ b → T (compare_is_eq o)) → Cmp o a b
    go Ordering.lt h k e n = lt_of_le-ne (h tt) n
    go Ordering.eq h k e n = e tt
    go Ordering.gt h k e n = k tt

-- k * b is within half of b of a
pub record Within (a b k : ℕ) : Type 0 where
  pub not_above : 2 * (k * b) ≤ 2 * a + b
  pub not_below : 2 * a ≤ 2 * (k * b) + b

by_rest : (a b w r : ℕ) (o : Ordering) → w * b + r ≡ a → r < b → Cmp o (r * 2) b → Within a b (nearest w o)
by_rest a b w r Ordering.lt e h c = record { not_above = omega arith; not_below = omega arith }
by_rest a b w r Ordering.eq e h c = tie (w % 2) (mod-lt w (lit< tt))
  where
    tie : (t : ℕ) → t < 2 → Within a b (w + t)
    tie zero few = let s : (w + 0) * b ≡ w * b = omega arith in record { not_above = omega arith; not_below = omega arith }
    tie (suc zero) few = let s : (w + 1) * b ≡ w * b + b = omega arith in record { not_above = omega arith; not_below = omega arith }
    tie (suc (suc t)) few = absurd (omega arith)
by_rest a b w r Ordering.gt e h c = let s : suc w * b ≡ w * b + b = omega arith in record { not_above = omega arith; not_below = omega arith }

closest_within : (a b : ℕ) → 0 < b → Within a b (closest a b)
closest_within a b some = by_rest a b (a / b) (a % b) (compare (a % b * 2) b) (div-add-mod' a b) (mod-lt a some) (compared (a % b * 2) b)

-- ---- one value by another fraction
rescaled : (x : Float) (s : Bool) (a c b d : ℕ) → 0 < c → a * d ≡ b * c → HasValue x s a c → HasValue x s b d
rescaled nan s a c b d p e v = v
rescaled (inf t) s a c b d p e v = v
rescaled (fin t m e') s a c b d p e v = (
  v.0,
  eq_of_mul-eq-mul_right c p (m * up e' * d) (b * down e')
      (mul_right_comm (m * up e') d c
      ∙ ap (λ (x : ℕ). x * d) v.1
      ∙ mul_right_comm a (down e') d
      ∙ ap (λ (x : ℕ). x * down e') e
      ∙ mul_right_comm b c (down e')),
)

-- ---- a number from 2 ^ j on has more than j digits
size_from : (n j : ℕ) → 2 ^ j ≤ n → j < size n
size_from n j h = go (dec_le (suc j) (size n))
  where
    go : Dec (j < size n) → j < size n
    go (yes p) = p
    go (no f) = let k : size n ≤ j = omega arith in absurd (lt_irrefl n (lt_of_lt_of_le (size-lt n) (le_trans (pow_mono k) h)))

-- ---- a / b with 2 ^ 52 added, rounded
module _ (a b : ℕ) (some : 0 < b) (low : a * 2 < 4294967297 * b) where
  abbrev A : ℕ
  A = a * 1 + 1 * 2 ^ 52 * b

  some' : 0 < b * 1
  some' = omega arith

  between : (P : ℕ) → 0 < P → (2 ^ 52 * P ≤ A * P / (b * 1)) × (A * P / (b * 1) < 2 ^ 53 * P)
  between P p =
      let from : 2 ^ 52 * (b * 1) ≤ A = omega arith in
      let below : A < 2 ^ 53 * (b * 1) = omega arith in (
        (le-div_iff_mul-le some').1 (rw (mul_right_comm (2 ^ 52) P (b * 1)) (mul-le-mul_right P from)),
        (div-lt_iff_lt-mul some').1 (rw (mul_right_comm (2 ^ 53) P (b * 1)) (mul-lt-mul_of_pos_right below p)),
      )

  digits : size (A * 2 ^ 1074 / (b * 1)) ≡ 1127
  digits =
      let n = A * 2 ^ 1074 / (b * 1) in
      let most = size-le n 1127 (between (2 ^ 1074) (lit< tt)).1 in
      let least = size_from n 1126 (between (2 ^ 1074) (lit< tt)).0 in
      omega arith

  kept_is : grid binary64 A (b * 1) ≡ closest A (b * 1) * 2 ^ 1074
  kept_is =
      let P = 2 ^ 1074 in
      rw (digits, closest_same (A * P) (b * 1 * P) A (b * 1) (mul-pos some' (lit< tt)) some' (mul_assoc A P (b * 1) ∙ ap (λ (x : ℕ). A * x) (mul_comm P (b * 1))))

  bounds : (k : ℕ) → Within A (b * 1) k → (2 ^ 52 ≤ k) × (k < 2 ^ 52 + 2147483650)
  bounds k w =
      let over = w.not_above in
      let under = w.not_below in
      let least : (2 ^ 53 - 1) * b ≤ 2 * k * b = omega arith in
      let most : k * b < (2 ^ 52 + 2147483650) * b = omega arith in
      let least' : 2 ^ 53 - 1 ≤ 2 * k = le_of_mul-le-mul_right least some in
      (omega arith, lt_of_mul-lt-mul_right b most)

  pub sum_value : HasValue (round binary64 false A (b * 1)) false (closest A (b * 1)) 1
  sum_value =
      let k = closest A (b * 1) in
      let high = (bounds k (closest_within A (b * 1) some')).1 in
      let low' : k < 2 ^ 53 = omega arith in
      rescaled (round binary64 false A (b * 1)) false (grid binary64 A (b * 1)) (2 ^ 1074) k 1 (lit< tt) (mul-one (grid binary64 A (b * 1)) ∙ kept_is)
      (round_val binary64 A (b * 1) (rw kept_is (lt_of_lt_of_le (mul-lt-mul_of_pos_right low' (lit< tt)) (lit≤ tt))))

  -- the whole number nearest to a / b, a half to the even one
  evened : (r : ℕ) × HasValue (round binary64 false A (b * 1)) false (r + 2 ^ 52) 1 × (r < 2147483650) × Within a b r
  evened =
      let k = closest A (b * 1) in
      let w = closest_within A (b * 1) some' in
      let over = w.not_above in
      let under = w.not_below in
      let in-range = bounds k w in
      let back : k - 2 ^ 52 + 2 ^ 52 ≡ k = omega arith in
      let less : (k - 2 ^ 52) * b + 2 ^ 52 * b ≡ k * b = sym (add-mul (k - 2 ^ 52) (2 ^ 52) b) ∙ ap (λ (x : ℕ). x * b) back in (
        k - 2 ^ 52,
        rw back sum_value,
        omega arith,
        record { not_above = omega arith; not_below = omega arith },
      )

-- ---- 2 ^ 52 taken off again, and a half put on
abbrev pub big : Float
big = fin false 1 (pos 52)

abbrev pub half : Float
half = fin false 1 (negsuc 0)

off_value : (x : Float) (r : ℕ) → r < 2 ^ 52 → HasValue x false (r + 2 ^ 52) 1 → HasValue (sub binary64 x big) false r 1
unfolding sub add neg sum
off_value nan r few v = absurd v
off_value (inf s) r few v = absurd v
off_value (fin true m e) r few v = absurd (true≢false v.0)
off_value (fin false m e) r few v =
    let d = down e in
    let some = down_pos e in
    let is : m * up e * 1 ≡ r * d + 2 ^ 52 * d = v.1 ∙ add-mul r (2 ^ 52) d in
    let left : m * up e * 1 - 1 * 2 ^ 52 * d ≡ r * d = omega arith in
    let high : 1 * 2 ^ 52 * d ≤ m * up e * 1 = omega arith in
    let some' : 0 < d * 1 = omega arith in
    rw (le-ltb (m * up e * 1) (1 * 2 ^ 52 * d) high, left)
    (rescaled (round binary64 false (r * d) (d * 1)) false (r * d) (d * 1) r 1 some' (mul_assoc r d 1)
    (round_exact binary64 false (r * d) (d * 1) r 1074 some' (lt_of_lt_of_le few (lit≤ tt)) (lt_of_lt_of_le (mul-lt-mul_of_pos_right few (lit< tt)) (lit≤ tt))
    (mul_right_comm r d (2 ^ 1074) ∙ ap (λ (x : ℕ). r * 2 ^ 1074 * x) (sym (mul-one d)))))

half_value : (x : Float) (r : ℕ) → r < 2 ^ 52 → HasValue x false r 1 → HasValue (add binary64 x half) false (2 * r + 1) 2
unfolding add sum
half_value nan r few v = absurd v
half_value (inf s) r few v = absurd v
half_value (fin true m e) r few v = absurd (true≢false v.0)
half_value (fin false m e) r few v =
    let d = down e in
    let q = 2 * r + 1 in
    let some = down_pos e in
    let is : m * up e * 1 ≡ r * d = v.1 in
    let all : m * up e * 2 + 1 * 1 * d ≡ q * d = omega arith in
    let some' : 0 < d * 2 = omega arith in
    let few' : q < 2 ^ 53 = omega arith in
    rw all
    (rescaled (round binary64 false (q * d) (d * 2)) false (q * d) (d * 2) q 2 some' (mul_assoc q d 2)
    (round_exact binary64 false (q * d) (d * 2) q 1073 some' few' (lt_of_lt_of_le (mul-lt-mul_of_pos_right few' (lit< tt)) (lit≤ tt))
    (shuffled q d (2 ^ 1073))))
  where
    shuffled : (q d P : ℕ) → q * d * (P * 2) ≡ q * P * (d * 2)
    shuffled q d P = sym (mul_assoc (q * d) P 2) ∙ ap (λ (x : ℕ). x * 2) (mul_right_comm q d P) ∙ mul_assoc (q * P) d 2

-- ---- a float beside one that is q / 2
crossed : (b n D q : ℕ) → n * 2 ≡ q * D → q * b * D ≡ 2 * (n * b)
crossed b n D q e = mul_right_comm q b D ∙ ap (λ (x : ℕ). x * b) (sym e) ∙ mul_right_comm n 2 b ∙ mul_comm (n * b) 2

below_it : (m : ℕ) (e : ℤ) (y : Float) (q : ℕ) → HasValue y false q 2 → lt (fin false m e) y ≡ true → 2 * (m * up e) < q * down e
unfolding lt
below_it m e nan q v t = absurd v
below_it m e (inf s) q v t = absurd v
below_it m e (fin true n f) q v t = absurd (true≢false v.0)
below_it m e (fin false n f) q v t =
    let h = ltb-true (m * up e * down f) (n * up f * down e) t in
    lt_of_mul-lt-mul_right (down f) (rw (crossed (down e) (n * up f) (down f) q v.1, mul_assoc 2 (m * up e) (down f)) (omega arith))

not_below_it : (m : ℕ) (e : ℤ) (y : Float) (q : ℕ) → HasValue y false q 2 → lt (fin false m e) y ≡ false → q * down e ≤ 2 * (m * up e)
unfolding lt
not_below_it m e nan q v t = absurd v
not_below_it m e (inf s) q v t = absurd v
not_below_it m e (fin true n f) q v t = absurd (true≢false v.0)
not_below_it m e (fin false n f) q v t =
    let h = ltb-false (m * up e * down f) (n * up f * down e) t in
    le_of_mul-le-mul_right (rw (crossed (down e) (n * up f) (down f) q v.1, mul_assoc 2 (m * up e) (down f)) (omega arith)) (down_pos f)

-- ---- a whole number as an integer
as_integer : (x : Float) (r : ℕ) → r < 2 ^ 32 → HasValue x false r 1 → T (in_unsigned binary64 32 x) × (to_unsigned 32 x ≡ r)
unfolding in_unsigned whole to_unsigned
as_integer nan r few v = absurd v
as_integer (inf s) r few v = absurd v
as_integer (fin true m e) r few v = absurd (true≢false v.0)
as_integer (fin false m e) r few v =
    let is : m * up e ≡ r * down e = sym (mul-one (m * up e)) ∙ v.1 in
    let q : m * up e / down e ≡ r = ap (λ (x : ℕ). x / down e) is ∙ mul-div_cancel r (down_pos e) in
    let n : m * up e % down e ≡ 0 = ap (λ (x : ℕ). x % down e) is ∙ mul-mod_left r (down e) in
    let low : r ≤ 2 ^ 53 = omega arith in
    let cut : min r (2 ^ 32 - 1) ≡ r = omega arith in
    (rw (q, n, le-leb r (2 ^ 53) low, lt-ltb r (2 ^ 32) few) tt, rw q cut)

-- ---- a float above 0 and below 2 ^ 31 + 1/2: rounded to the even number, and what a half more tells
pub record Evened (x : Float) : Type 0 where
  pub even : ℕ
  pub small : even < 2147483650
  pub cast : T (in_unsigned binary64 32 (sub binary64 (add binary64 x big) big))
  pub is : to_unsigned 32 (sub binary64 (add binary64 x big) big) ≡ even
  pub nearest : lt x (add binary64 (sub binary64 (add binary64 x big) big) half) ≡ true → even ≡ size_of x
  pub too_low : lt x (add binary64 (sub binary64 (add binary64 x big) big) half) ≡ false → even + 1 ≡ size_of x

pub even : (x : Float) → T (lt (fin false 0 (pos 0)) x) → T (lt x (fin false 4294967297 (negsuc 0))) → Evened x
unfolding lt size_of add sum
even nan p h = absurd p
even (inf s) p h = absurd (clash s p h)
  where
    clash : (s : Bool) → T (not s) → T s → ⊥
    clash true p h = p
    clash false p h = h
even (fin true m e) p h = absurd p
even (fin false m e) p h =
    let a = m * up e in
    let b = down e in
    let low : a * 2 < 4294967297 * b = ltb→lt (m * up e * 2) (4294967297 * 1 * down e) h in
    let total = evened a b (down_pos e) low in
    let r = total.0 in
    let few : r < 2147483650 = total.2 in
    let near = total.3 in
    let back = sub binary64 (add binary64 (fin false m e) big) big in
    let rounded = off_value (add binary64 (fin false m e) big) r (omega arith) total.1 in
    let more = half_value back r (omega arith) rounded in
    let cast = as_integer back r (omega arith) rounded in
    record {
      even = r;
      small = few;
      cast = cast.0;
      is = cast.1;
      nearest = λ t. half_up_only (below a b r near (below_it m e (add binary64 back half) (2 * r + 1) more t));
      too_low = λ t. half_up_only (above a b r (down_pos e) near (not_below_it m e (add binary64 back half) (2 * r + 1) more t));
    }
  where
    below : (a b r : ℕ) → Within a b r → 2 * a < (2 * r + 1) * b → NearestTo a b r
    below a b r w t =
        let over = w.not_above in
        let e : 2 * b * r ≡ 2 * (r * b) = mul_assoc 2 b r ∙ ap (λ (x : ℕ). 2 * x) (mul_comm b r) in
        let f : (2 * r + 1) * b ≡ 2 * (r * b) + b = omega arith in
        record { not_above = omega arith; not_below = omega arith }

    above : (a b r : ℕ) → 0 < b → Within a b r → (2 * r + 1) * b ≤ 2 * a → NearestTo a b (r + 1)
    above a b r some w t =
        let under = w.not_below in
        let g : (r + 1) * b ≡ r * b + b = omega arith in
        let e : 2 * b * (r + 1) ≡ 2 * ((r + 1) * b) = mul_assoc 2 b (r + 1) ∙ ap (λ (x : ℕ). 2 * x) (mul_comm b (r + 1)) in
        let f : (2 * r + 1) * b ≡ 2 * (r * b) + b = omega arith in
        record { not_above = omega arith; not_below = omega arith }
