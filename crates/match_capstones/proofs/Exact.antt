-- A float that fits its format is its own rounding: the fraction that it stands for rounds to a float of the same value. Assumes nothing.
use Prim.Native.Nat.{ℕ, zero, suc, ◌+◌, ◌-◌, ◌*◌, ◌%◌, ◌^◌, ◌≤◌, ◌<◌}
use native.Mathlib.Nat.{mul-one, mul_assoc, mul_comm, zero-mul, mul-lt-mul_of_pos_right}
use native.Mathlib.Decide.{dec_le}
use native.Mathlib.Omega.{arith}
use mathlib.Core.Path.{◌≡◌, sym, ap, ◌∙◌}
use mathlib.Core.Bool.{false, ◌&&◌}
use mathlib.Core.Logic.{by_cases}
use lib.Dec.{T, leb, ltb, eqb, ltb→lt, leb→le}
use lib.IntN.{ℤ, pos, negsuc}
use lib.Pow.{pow_pos, pow-add, pow-lt}
use lib.Ieee.{Format, fin, prec, emax, low, up, down, round, fits}
use lib.Ieee.Fits.{down_pos, and_l, and_r}
use lib.Ieee.Exact.{HasValue, round_exact}

-- an exponent that a power of 2 stays below
exponent : (k l : ℕ) → 2 ^ k ≤ 2 ^ l → k ≤ l
exponent k l h = by_cases (dec_le k l) (λ low. low) (λ high. absurd (omega (arith, pow-lt {i = l} {j = k} (omega arith))))

scaled_up : (m k l b : ℕ) → m * 2 ^ k < 2 ^ b * 1 → m * 2 ^ (k + l) < 2 ^ (l + b)
scaled_up m k l b h =
    rw (pow-add 2 k l, pow-add 2 l b, mul_comm (2 ^ l) (2 ^ b), ← mul_assoc m (2 ^ k) (2 ^ l)) (mul-lt-mul_of_pos_right (rw mul-one at h) (pow_pos l))

scaled_down : (m j s l b : ℕ) → j + s ≡ l → m * 1 < 2 ^ b * 2 ^ s → m * 2 ^ j < 2 ^ (l + b)
scaled_down m j s l b e h =
    rw (← e, pow-add 2 (j + s) b, pow-add 2 j s, mul_comm (2 ^ j * 2 ^ s) (2 ^ b), mul_comm (2 ^ j) (2 ^ s), ← mul_assoc (2 ^ b) (2 ^ s) (2 ^ j))
    (mul-lt-mul_of_pos_right (rw mul-one at h) (pow_pos j))

own : (f : Format) (m : ℕ) (e : ℤ) → m < 2 ^ prec f → down e ≤ 2 ^ low f → m * up e < 2 ^ suc (emax f) * down e
    → HasValue (round f false (m * up e) (down e)) false (m * up e) (down e)
own f m (pos k) small deep high =
    round_exact f false (m * 2 ^ k) 1 m (k + low f) (omega arith) small (scaled_up m k (low f) (suc (emax f)) high)
    (mul_assoc m (2 ^ k) (2 ^ low f) ∙ ap (λ (x : ℕ). m * x) (sym (pow-add 2 k (low f))) ∙ sym (mul-one (m * 2 ^ (k + low f))))
own f m (negsuc k) small deep high =
    let j = low f - suc k in
    let all : j + suc k ≡ low f = omega (arith, exponent (suc k) (low f) deep) in
    round_exact f false (m * 1) (2 ^ suc k) m j (pow_pos (suc k)) small (scaled_down m j (suc k) (low f) (suc (emax f)) all high)
    (ap (λ (x : ℕ). x * 2 ^ low f) (mul-one m) ∙ ap (λ (x : ℕ). m * x) (ap (λ (x : ℕ). 2 ^ x) (sym all) ∙ pow-add 2 j (suc k)) ∙ sym (mul_assoc m (2 ^ j) (2 ^ suc k)))

pub own_rounding : (f : Format) (m : ℕ) (e : ℤ) → T (fits f (fin false m e)) → HasValue (round f false (m * up e) (down e)) false (m * up e) (down e)
unfolding fits
own_rounding f zero e t = round_exact f false (0 * up e) (down e) 0 0 (down_pos e) (pow_pos (prec f)) (pow_pos (low f + suc (emax f))) (simp zero-mul)
own_rounding f (suc m) e t =
    let odd = eqb (suc m % 2) 1 in
    let small = ltb (suc m) (2 ^ prec f) in
    let deep = leb (down e) (2 ^ low f) in
    let high = ltb (suc m * up e) (2 ^ suc (emax f) * down e) in
    let rest = and_l (odd && small && deep) high t in
    own f (suc m) e
    (ltb→lt (suc m) (2 ^ prec f) (and_r odd small (and_l (odd && small) deep rest)))
    (leb→le (down e) (2 ^ low f) (and_r (odd && small) deep rest))
    (ltb→lt (suc m * up e) (2 ^ suc (emax f) * down e) (and_r (odd && small && deep) high t))
