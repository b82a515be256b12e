-- What `nearest` answers is the nearest whole number, and the only one. Assumes nothing.
use Rattle.std.specs.Prelude.{Some, None}
use Prim.Native.Nat.{ℕ, zero, suc, ◌+◌, ◌*◌, ◌^◌, ◌≤◌, ◌<◌, zero-le}
use native.Mathlib.Nat.{div-eq_of_lt-le, mul-div-le, lt-mul-div-succ, mul-pos}
use native.Mathlib.Omega.{arith}
use mathlib.Core.Path.{◌≡◌, refl, sym, ap, ◌∙◌}
use mathlib.Core.Bool.{Bool, true, false, cond}
use lib.Dec.{lit<, ltb, leb}
use lib.IntN.{ℤ, pos, neg_ℤ}
use lib.Ieee.{Float, nan, inf, fin, up, down}
use lib.Ieee.Fits.{down_pos}
use mir.Syntax.{w32}
use mir.Val.{SFits}
use borrow.Author.Tests.{ltb-true, ltb-false, leb-true, leb-false}
use Rattle.rounding.specs.Nearest.{NearestTo, Rounds, signed_by, half_up, held, nearest_of}

-- `half_up` is a nearest number, and there is no other
pub half_up_nearest : (a b : ℕ) → 0 < b → NearestTo a b (half_up a b)
unfolding half_up
half_up_nearest a b some =
    let low = mul-div-le (2 * a + b) (2 * b) in
    let high = lt-mul-div-succ (2 * a + b) {b = 2 * b} (mul-pos (lit< tt) some) in
    record { not_above = low; not_below = omega arith }

pub half_up_only : {a b n : ℕ} → NearestTo a b n → n ≡ half_up a b
unfolding half_up
half_up_only {a} {b} {n} near =
    let low = near.not_above in
    let high = near.not_below in
    sym (div-eq_of_lt-le (2 * b) {m = 2 * a + b} (omega arith) (omega arith))

-- a float rounds to one whole number at most
pub rounds_only : (x : Float) {y z : ℤ} → Rounds x y → Rounds x z → y ≡ z
rounds_only nan p q = absurd p
rounds_only (inf s) p q = absurd p
rounds_only (fin s m e) p q =
    p.2 ∙ ap (signed_by s) (half_up_only p.1 ∙ sym (half_up_only q.1)) ∙ sym q.2

minus_fits : (n : ℕ) → n ≤ 2 ^ 31 → SFits w32 (neg_ℤ (pos n))
minus_fits zero h = record { sfits = lit< tt }
minus_fits (suc n) h = record { sfits = omega arith }

minus_low : (n : ℕ) → SFits w32 (neg_ℤ (pos n)) → n ≤ 2 ^ 31
minus_low zero h = zero-le
minus_low (suc n) h = let k = h.sfits in omega arith

-- what `held` answers is n with its sign, and an `i32`
held_at : (s : Bool) (n : ℕ) (z : ℤ) → held s n ≡ Some z → (z ≡ signed_by s n) × SFits w32 z
unfolding held
held_at false n z = go (ltb n (2 ^ 31)) (ltb-true n (2 ^ 31))
  where
    go : (t : Bool) → (t ≡ true → n < 2 ^ 31) → cond t (Some (pos n)) None ≡ Some z → (z ≡ pos n) × SFits w32 z
    go true f e =
        let is : z ≡ pos n = cc in
        (is, rw is (record { sfits = f refl }))
    go false f e = let z : ◌≡◌ {A = ℕ} 0 1 = cc in absurd (omega arith)
held_at true n z = go (leb n (2 ^ 31)) (leb-true n (2 ^ 31))
  where
    go : (t : Bool) → (t ≡ true → n ≤ 2 ^ 31) → cond t (Some (neg_ℤ (pos n))) None ≡ Some z → (z ≡ neg_ℤ (pos n)) × SFits w32 z
    go true f e =
        let is : z ≡ neg_ℤ (pos n) = cc in
        (is, rw is (minus_fits n (f refl)))
    go false f e = let z : ◌≡◌ {A = ℕ} 0 1 = cc in absurd (omega arith)

-- and it answers wherever there is one
held_off : (s : Bool) (n : ℕ) → held s n ≡ None → SFits w32 (signed_by s n) → ⊥
unfolding held
held_off false n e fits = go (ltb n (2 ^ 31)) (ltb-false n (2 ^ 31)) e
  where
    go : (t : Bool) → (t ≡ false → 2 ^ 31 ≤ n) → cond t (Some (pos n)) None ≡ None → ⊥
    go true f e = let z : ◌≡◌ {A = ℕ} 0 1 = cc in omega arith
    go false f e = let high = f refl in let low = fits.sfits in omega arith
held_off true n e fits = go (leb n (2 ^ 31)) (leb-false n (2 ^ 31)) e
  where
    go : (t : Bool) → (t ≡ false → 2 ^ 31 < n) → cond t (Some (neg_ℤ (pos n))) None ≡ None → ⊥
    go true f e = let z : ◌≡◌ {A = ℕ} 0 1 = cc in omega arith
    go false f e = let high = f refl in let low = minus_low n fits in omega arith

-- an answer is the number that x rounds to, and an `i32`
pub nearest_at : (x : Float) (z : ℤ) → nearest_of x ≡ Some z → Rounds x z × SFits w32 z
unfolding nearest_of
nearest_at nan z e = let z : ◌≡◌ {A = ℕ} 0 1 = cc in absurd (omega arith)
nearest_at (inf s) z e = let z : ◌≡◌ {A = ℕ} 0 1 = cc in absurd (omega arith)
nearest_at (fin s m e) z is =
    let h = held_at s (half_up (m * up e) (down e)) z is in
    ((half_up (m * up e) (down e), half_up_nearest (m * up e) (down e) (down_pos e), h.0), h.1)

-- where there is no answer, x rounds to no `i32`
pub nearest_off : (x : Float) (z : ℤ) → nearest_of x ≡ None → Rounds x z → SFits w32 z → ⊥
unfolding nearest_of
nearest_off nan z e r fits = r
nearest_off (inf s) z e r fits = r
nearest_off (fin s m e) z is r fits =
    held_off s (half_up (m * up e) (down e)) is (rw (sym (r.2 ∙ ap (signed_by s) (half_up_only r.1))) fits)
