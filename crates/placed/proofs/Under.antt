-- Finite floats of a bounded size: what rounding, a sum, a product and a quotient keep of the bound. Assumes nothing.
use Prim.Native.Nat.{ℕ, suc, ◌+◌, ◌-◌, ◌*◌, ◌^◌, ◌≤◌, ◌<◌}
use native.Mathlib.Nat.{le_trans, le_of_eq, le_of_lt, lt_of_lt_of_le, mul-pos, mul_comm, mul_assoc, mul_right_comm, mul-mul-mul_comm, mul-le-mul, mul-le-mul_right, add-mul, zero-mul}
use native.Mathlib.Omega.{arith}
use mathlib.Core.Path.{◌≡◌, refl, sym, ap, ◌∙◌, subst}
use mathlib.Core.Logic.{◌⊎◌, inl, inr}
use mathlib.Core.Bool.{Bool, true, false, cond, ◌&&◌, ◌||◌, beq, true≢false}
use lib.Dec.{T, ltb, eqb, ltb→lt, eqb→eq, lit<}
use lib.IntN.{ℤ, pos}
use lib.Pow.{pow_pos}
use lib.Ieee.{Float, nan, inf, fin, binary64, prec, low, up, down, odd, units, round, sum, add, mul, div, le, lt, neg, unlike}
use lib.Ieee.Exact.{HasValue, units_val}
use lib.Ieee.Fits.{down_pos, round_is, and_l}
use lib.Ieee.Order.{drop, kept, transfer, round_mono}
use lib.Ieee.Positive.{first_pos, through}
use lib.Ieee.Scale.{grid, overflow, round_val}
use borrow.Author.Tests.{lt-ltb, ltb-true, ne_eqb}

-- x is finite, and no further from 0 than n / d
abbrev pub Under : Float → ℕ → ℕ → Type 0
Under nan n d = ⊥
Under (inf s) n d = ⊥
Under (fin s m e) n d = m * up e * d ≤ n * down e

-- x is finite, and no less than n / d
abbrev pub Over : Float → ℕ → ℕ → Type 0
Over nan n d = ⊥
Over (inf s) n d = ⊥
Over (fin true m e) n d = ⊥
Over (fin false m e) n d = n * down e ≤ m * up e * d

-- a float is n / d
abbrev pub Exact : ℕ → ℕ → Type 0
Exact n d = HasValue (round binary64 false n d) false n d

-- ---- two floats that are not negative, in order: so are their fractions
-- one of two tests passes
split : (a b : Bool) → T (a || b) → T a ⊎ T b
split true b t = inl tt
split false b t = inr t

-- what `le` says of two sizes
not_above : (a b : ℕ) → T (ltb a b || (eqb a b && true)) → a ≤ b
not_above a b t = elim (split (ltb a b) (eqb a b && true) t) [ inl u ↦ le_of_lt (ltb→lt a b u) | inr u ↦ le_of_eq (eqb→eq a b (and_l (eqb a b) true u)) ]

-- the order of two floats is that of any fractions that they equal
fractions : (x y : Float) (a c b d : ℕ) → HasValue x false a c → HasValue y false b d → T (le x y) → a * d ≤ b * c
unfolding le
fractions nan y a c b d p q h = absurd p
fractions (inf s) y a c b d p q h = absurd p
fractions (fin true m e) y a c b d p q h = absurd (true≢false p.0)
fractions (fin false m e) nan a c b d p q h = absurd q
fractions (fin false m e) (inf t) a c b d p q h = absurd q
fractions (fin false m e) (fin true n k) a c b d p q h = absurd (true≢false q.0)
fractions (fin false m e) (fin false n k) a c b d p q h =
    transfer a b c d (m * up e) (n * up k) (down e) (down k) (down_pos e) (down_pos k) (sym p.1) (sym q.1) (not_above (m * up e * down k) (n * up k * down e) h)

-- ---- rounding
-- what rounds to no more than a finite float does not overflow
low_enough : (q k : ℕ) (y : Float) (n d : ℕ) → HasValue y false n d → T (le (units binary64 false q k) y) → q * 2 ^ k < overflow binary64
unfolding units le
low_enough q k nan n d v = absurd v
low_enough q k (inf t) n d v = absurd v
low_enough q k (fin t m e) n d v = go (ltb (q * 2 ^ k) (overflow binary64)) (ltb→lt (q * 2 ^ k) (overflow binary64))
  where
    go : (b : Bool) → (T b → q * 2 ^ k < overflow binary64) → T (le (cond b (odd (suc (prec binary64)) false q k (low binary64)) (inf false)) (fin t m e)) → q * 2 ^ k < overflow binary64
    go true h t = h tt
    go false h t = absurd t

-- a fraction rounds to the same size with either sign
either_sign : (s : Bool) (a c : ℕ) → grid binary64 a c < overflow binary64 → HasValue (round binary64 s a c) s (grid binary64 a c) (2 ^ low binary64)
either_sign s a c h =
    subst (λ (z : Float). HasValue z s (grid binary64 a c) (2 ^ low binary64)) (sym (round_is binary64 s a c))
    (units_val binary64 s (kept (prec binary64) (a * 2 ^ low binary64) c) (drop (prec binary64) (a * 2 ^ low binary64) c) h)

-- a float is bounded as a fraction is that it equals, from above
under_of : (x : Float) (s : Bool) (a c n d : ℕ) → 0 < c → 0 < d → HasValue x s a c → a * d ≤ n * c → Under x n d
under_of nan s a c n d C D v h = absurd v
under_of (inf t) s a c n d C D v h = absurd v
under_of (fin t m e) s a c n d C D v h = transfer (m * up e) n (down e) d a n c d C D v.1 refl h

-- and from below
over_of : (x : Float) (a c n d : ℕ) → 0 < c → 0 < d → HasValue x false a c → n * c ≤ a * d → Over x n d
over_of nan a c n d C D v h = absurd v
over_of (inf t) a c n d C D v h = absurd v
over_of (fin true m e) a c n d C D v h = absurd (true≢false v.0)
over_of (fin false m e) a c n d C D v h = transfer n (m * up e) d (down e) n a d c D C refl v.1 h

module _ (a b n d : ℕ) (B : 0 < b) (D : 0 < d) (exact : Exact n d) where
  -- a fraction up to a float does not overflow
  fine : a * d ≤ n * b → grid binary64 a b < overflow binary64
  fine h =
      low_enough (kept (prec binary64) (a * 2 ^ low binary64) b) (drop (prec binary64) (a * 2 ^ low binary64) b) (round binary64 false n d) n d exact
      (subst (λ (z : Float). T (le z (round binary64 false n d))) (round_is binary64 false a b) (round_mono binary64 a b n d B D h))

  -- a fraction up to a float rounds to no more than that
  pub round_under : (s : Bool) → a * d ≤ n * b → Under (round binary64 s a b) n d
  round_under s h =
      under_of (round binary64 s a b) s (grid binary64 a b) (2 ^ low binary64) n d (pow_pos (low binary64)) D (either_sign s a b (fine h))
      (fractions (round binary64 false a b) (round binary64 false n d) (grid binary64 a b) (2 ^ low binary64) n d (round_val binary64 a b (fine h)) exact (round_mono binary64 a b n d B D h))

  -- a fraction from a float on rounds to no less than that, where it does not overflow
  pub round_over : grid binary64 a b < overflow binary64 → n * b ≤ a * d → Over (round binary64 false a b) n d
  round_over f h =
      over_of (round binary64 false a b) (grid binary64 a b) (2 ^ low binary64) n d (pow_pos (low binary64)) D (round_val binary64 a b f)
      (fractions (round binary64 false n d) (round binary64 false a b) n d (grid binary64 a b) (2 ^ low binary64) exact (round_val binary64 a b f) (round_mono binary64 n d a b D B h))

-- ---- bounds that follow
-- what is within a bound is within any that is no smaller
pub weaker : (x : Float) (n d N D : ℕ) → 0 < d → n * D ≤ N * d → Under x n d → Under x N D
weaker nan n d N D p h v = v
weaker (inf s) n d N D p h v = v
weaker (fin s m e) n d N D p h v = through (m * up e) n N (down e) d D p v h

-- a float is within a fraction that it equals
pub value_under : (x : Float) (s : Bool) (n d : ℕ) → HasValue x s n d → Under x n d
value_under nan s n d v = v
value_under (inf t) s n d v = v
value_under (fin t m e) s n d v = le_of_eq v.1

-- ---- the sum: whatever the signs, it is rounded once, and no larger than both sizes together
record Summed (s : Bool) (a : ℕ) (t : Bool) (b c : ℕ) : Type 0 where
  sign : Bool
  size : ℕ
  is : sum binary64 s a t b c ≡ round binary64 sign size c
  most : size ≤ a + b

-- by whether the signs are alike, and which size is larger
summed : (s : Bool) (a : ℕ) (t : Bool) (b c : ℕ) → Summed s a t b c
unfolding sum
summed s a t b c = go (beq s t) (ltb a b) refl refl
  where
    go : (x y : Bool) → beq s t ≡ x → ltb a b ≡ y → Summed s a t b c
    go true y p q = record { sign = s; size = a + b; is = rw p; most = omega arith }
    go false true p q = record { sign = t; size = b - a; is = rw (p, q); most = omega arith }
    go false false p q = record { sign = s && ltb b a; size = a - b; is = rw (p, q); most = omega arith }

-- two sizes over one denominator
over_one : (a b p q n k d : ℕ) → a * d ≤ n * p → b * d ≤ k * q → (a * q + b * p) * d ≤ (n + k) * (p * q)
over_one a b p q n k d h g =
    let x : a * q * d ≤ n * (p * q) = le_trans (le_of_eq (mul_right_comm a q d)) (le_trans (mul-le-mul_right q h) (le_of_eq (mul_assoc n p q))) in
    let y : b * p * d ≤ k * (p * q) = le_trans (le_of_eq (mul_right_comm b p d)) (le_trans (mul-le-mul_right p g) (le_of_eq (mul_right_comm k q p ∙ mul_assoc k p q))) in
    let l : (a * q + b * p) * d ≡ a * q * d + b * p * d = add-mul (a * q) (b * p) d in
    let r : (n + k) * (p * q) ≡ n * (p * q) + k * (p * q) = add-mul n k (p * q) in
    omega arith

-- two bounds over one denominator add up, to no more than a float
pub add_under : (x y : Float) (n k d N D : ℕ) → Under x n d → Under y k d → 0 < d → 0 < D → Exact N D → (n + k) * D ≤ N * d → Under (add binary64 x y) N D
unfolding add
add_under nan y n k d N D v w p P exact h = absurd v
add_under (inf s) y n k d N D v w p P exact h = absurd v
add_under (fin s m e) nan n k d N D v w p P exact h = absurd w
add_under (fin s m e) (inf t) n k d N D v w p P exact h = absurd w
add_under (fin s m e) (fin t m' e') n k d N D v w p P exact h =
    let c = down e * down e' in
    let a = m * up e * down e' in
    let b = m' * up e' * down e in
    let whole = summed s a t b c in
    let all : (a + b) * D ≤ N * c = through (a + b) (n + k) N c d D p (over_one (m * up e) (m' * up e') (down e) (down e') n k d v w) h in
    subst (λ (z : Float). Under z N D) (sym whole.is)
    (round_under whole.size c N D (mul-pos (down_pos e) (down_pos e')) P exact whole.sign (le_trans (mul-le-mul_right D whole.most) all))

-- ---- the product
-- two bounds make a product, of no more than a float
pub mul_under : (x y : Float) (n d k l N D : ℕ) → Under x n d → Under y k l → 0 < d → 0 < l → 0 < D → Exact N D → n * k * D ≤ N * (d * l) → Under (mul binary64 x y) N D
unfolding mul
mul_under nan y n d k l N D v w p q P exact h = absurd v
mul_under (inf s) y n d k l N D v w p q P exact h = absurd v
mul_under (fin s m e) nan n d k l N D v w p q P exact h = absurd w
mul_under (fin s m e) (inf t) n d k l N D v w p q P exact h = absurd w
mul_under (fin s m e) (fin t m' e') n d k l N D v w p q P exact h =
    let a = m * up e in
    let b = m' * up e' in
    let both : a * b * (d * l) ≤ n * k * (down e * down e') = le_trans (le_of_eq (mul-mul-mul_comm a b d l)) (le_trans (mul-le-mul v w) (le_of_eq (mul-mul-mul_comm n (down e) k (down e')))) in
    round_under (a * b) (down e * down e') N D (mul-pos (down_pos e) (down_pos e')) P exact (unlike s t) (through (a * b) (n * k) N (down e * down e') (d * l) D (mul-pos p q) both h)

-- ---- the quotient
-- a product above 0 has no factor 0
not_zero : (m u q c : ℕ) → 0 < c → c ≤ m * u * q → m ≡ 0 → ⊥
not_zero m u q c p h e =
    let z : m * u * q ≡ 0 = ap (λ (x : ℕ). x * u * q) e ∙ ap (λ (x : ℕ). x * q) (zero-mul u) ∙ zero-mul q in
    omega arith

-- a / p ≤ n / d and k / l ≤ b / q, so a q / b p ≤ n l / d k
inverted : (a p b q n d k l : ℕ) → a * d ≤ n * p → k * q ≤ b * l → a * q * (d * k) ≤ n * l * (b * p)
inverted a p b q n d k l h g =
    le_trans (le_of_eq (mul-mul-mul_comm a q d k ∙ ap (λ (x : ℕ). a * d * x) (mul_comm q k)))
    (le_trans (mul-le-mul h g) (le_of_eq (ap (λ (x : ℕ). n * p * x) (mul_comm b l) ∙ mul-mul-mul_comm n p l b ∙ ap (λ (x : ℕ). n * l * x) (mul_comm p b))))

-- a bound from above, over one from below, is no more than a float
pub div_under : (x y : Float) (n d k l N D : ℕ) → Under x n d → Over y k l → 0 < d → 0 < k → 0 < D → Exact N D → n * l * D ≤ N * (d * k) → Under (div binary64 x y) N D
unfolding div
div_under nan y n d k l N D v w p q P exact h = absurd v
div_under (inf s) y n d k l N D v w p q P exact h = absurd v
div_under (fin s m e) nan n d k l N D v w p q P exact h = absurd w
div_under (fin s m e) (inf t) n d k l N D v w p q P exact h = absurd w
div_under (fin s m e) (fin true m' e') n d k l N D v w p q P exact h = absurd w
div_under (fin s m e) (fin false m' e') n d k l N D v w p q P exact h =
    let a = m * up e in
    let b = m' * up e' in
    let some = mul-pos q (down_pos e') in
    let both : a * down e' * (d * k) ≤ n * l * (b * down e) = inverted a (down e) b (down e') n d k l v w in
    rw (ne_eqb m' 0 (not_zero m' (up e') l (k * down e') some w))
    (round_under (a * down e') (b * down e) N D (mul-pos (first_pos b l (lt_of_lt_of_le some w)) (down_pos e)) P exact (unlike s false) (through (a * down e') (n * l) N (b * down e) (d * k) D (mul-pos p q) both h))

-- ---- 1 and something of at most a half
-- a half is a float
pub half_exact : Exact 1 2
unfolding round
half_exact = (refl, refl)

-- so is 2
two_exact : Exact 2 1
unfolding round
two_exact = (refl, refl)

-- a fraction from a half to 2 rounds to a half or more
half_or_more : (a b : ℕ) → 0 < b → b ≤ a * 2 → a ≤ 2 * b → Over (round binary64 false a b) 1 2
half_or_more a b some least most =
    round_over a b 1 2 some (lit< tt) half_exact (fine a b 2 1 some (lit< tt) two_exact (omega arith)) (omega arith)

-- then the sum is a half at least
pub one_over : (x : Float) → Under x 1 2 → Over (add binary64 x (fin false 1 (pos 0))) 1 2
unfolding add sum
one_over nan v = absurd v
one_over (inf s) v = absurd v
one_over (fin false m e) v = let p = down_pos e in half_or_more (m * up e * 1 + 1 * 1 * down e) (down e * 1) (omega arith) (omega arith) (omega arith)
one_over (fin true m e) v =
    let p = down_pos e in
    let less : m * up e * 1 < 1 * 1 * down e = omega arith in
    rw (lt-ltb (m * up e * 1) (1 * 1 * down e) less)
    (half_or_more (1 * 1 * down e - m * up e * 1) (down e * 1) (omega arith) (omega arith) (omega arith))

-- ---- a float strictly between two limits
-- the limit bounds its size
pub between_under : (x : Float) (n : ℕ) (k : ℤ) → lt x (fin false n k) ≡ true → lt (neg (fin false n k)) x ≡ true → Under x (n * up k) (down k)
unfolding lt neg
between_under nan n k p q = absurd (true≢false (sym p))
between_under (inf true) n k p q = absurd (true≢false (sym q))
between_under (inf false) n k p q = absurd (true≢false (sym p))
between_under (fin false m e) n k p q = le_of_lt (ltb-true (m * up e * down k) (n * up k * down e) p)
between_under (fin true m e) n k p q = le_of_lt (ltb-true (m * up e * down k) (n * up k * down e) q)
