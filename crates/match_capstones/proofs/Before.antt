-- Ranking is an order: nothing ranks before what ranks before it, and what does not rank before a second, which does not rank before a third, does not rank before the third.
-- So it is with every float, of either sign, infinite, or no number. Assumes nothing.
use Prim.Native.Nat.{ℕ, zero, suc, ◌+◌, ◌*◌, ◌≤◌, ◌<◌}
use native.Mathlib.Nat.{mul-pos, zero-lt-suc}
use native.Mathlib.Omega.{arith}
use mathlib.Core.Path.{◌≡◌, refl, sym, ap, ◌∙◌}
use mathlib.Core.Bool.{Bool, true, false, or-false, true≢false, false≢true}
use borrow.Author.Tests.{ltb-true, ltb-false, le-ltb}
use lib.IntN.{ℤ}
use lib.Ieee.{Float, nan, inf, fin, up, down, below, lt, is_nan}
use lib.Ieee.Fits.{down_pos}
use lib.Ieee.Positive.{through}
use Rattle.match_capstones.specs.Order.{ranks_before}

-- ---- two numbers with a sign
pub below_once : (s : Bool) (a : ℕ) (t : Bool) (b : ℕ) → below s a t b ≡ true → below t b s a ≡ false
below_once false a false b h = le-ltb b a (omega (arith, ltb-true a b h))
below_once false a true b h = absurd (false≢true h)
below_once true a false b h = refl
below_once true a true b h = le-ltb a b (omega (arith, ltb-true b a h))

-- a product that is 0, of a second factor that is not
none_of : (x p : ℕ) → 0 < p → x * p ≤ 0 → x ≡ 0
none_of zero p low h = refl
none_of (suc x) p low h = absurd (omega (arith, mul-pos (zero-lt-suc x) low))

-- three fractions x / p, y / q, z / r with signs: y is not below x, z is not below y, and so z is not below x
module _ (x y z p q r : ℕ) (P : 0 < p) (Q : 0 < q) (R : 0 < r) where
  below_through : (s t u : Bool) → below t (y * p) s (x * q) ≡ false → below u (z * q) t (y * r) ≡ false → below u (z * p) s (x * r) ≡ false
  below_through false false false h k = le-ltb (z * p) (x * r) (through x y z p q r Q (ltb-false (y * p) (x * q) h) (ltb-false (z * q) (y * r) k))
  below_through false false true h k =
      let c = ltb-false 0 (z * q + y * r) k in
      let b = ltb-false (y * p) (x * q) h in
      let y0 : y ≡ 0 = none_of y r R (omega arith) in
      let z0 : z ≡ 0 = none_of z q Q (omega arith) in
      let x0 : x ≡ 0 = none_of x q Q (omega (arith, ap (λ (n : ℕ). n * p) y0)) in
      rw (x0, z0) (le-ltb 0 (0 * p + 0 * r) (omega arith))
  below_through false true false h k =
      let x0 : x ≡ 0 = none_of x q Q (omega (arith, ltb-false 0 (y * p + x * q) h)) in
      rw x0 (le-ltb (z * p) (0 * r) (omega arith))
  below_through false true true h k =
      let b = ltb-false 0 (y * p + x * q) h in
      let c = ltb-false (y * r) (z * q) k in
      let x0 : x ≡ 0 = none_of x q Q (omega arith) in
      let y0 : y ≡ 0 = none_of y p P (omega arith) in
      let z0 : z ≡ 0 = none_of z q Q (omega (arith, ap (λ (n : ℕ). n * r) y0)) in
      rw (x0, z0) (le-ltb 0 (0 * p + 0 * r) (omega arith))
  below_through true false false h k = refl
  below_through true false true h k =
      let z0 : z ≡ 0 = none_of z q Q (omega (arith, ltb-false 0 (z * q + y * r) k)) in
      rw z0 (le-ltb (x * r) (0 * p) (omega arith))
  below_through true true false h k = refl
  below_through true true true h k = le-ltb (x * r) (z * p) (through z y x r q p Q (ltb-false (y * r) (z * q) k) (ltb-false (x * q) (y * p) h))

-- ---- two finite floats rank as their comparison says
pub finite : (s : Bool) (m : ℕ) (e : ℤ) (t : Bool) (n : ℕ) (d : ℤ) → ranks_before (fin s m e) (fin t n d) ≡ below s (m * up e * down d) t (n * up d * down e)
unfolding ranks_before lt is_nan
finite s m e t n d = or-false (below s (m * up e * down d) t (n * up d * down e))

pub once_before : (a b : Float) → ranks_before a b ≡ true → ranks_before b a ≡ false
unfolding ranks_before lt is_nan
once_before nan b h = absurd (false≢true h)
once_before (inf true) nan h = refl
once_before (inf true) (inf true) h = refl
once_before (inf true) (inf false) h = refl
once_before (inf true) (fin t n d) h = refl
once_before (inf false) nan h = refl
once_before (inf false) (inf true) h = absurd (false≢true h)
once_before (inf false) (inf false) h = refl
once_before (inf false) (fin t n d) h = absurd (false≢true h)
once_before (fin s m e) nan h = refl
once_before (fin s m e) (inf true) h = absurd (false≢true h)
once_before (fin s m e) (inf false) h = refl
once_before (fin s m e) (fin t n d) h =
    finite t n d s m e ∙ below_once s (m * up e * down d) t (n * up d * down e) (sym (finite s m e t n d) ∙ h)

-- a ranks no later than b, b no later than c, and so a no later than c
pub not_before : (a b c : Float) → ranks_before b a ≡ false → ranks_before c b ≡ false → ranks_before c a ≡ false
unfolding ranks_before lt is_nan
not_before nan nan c h k = k
not_before nan (inf s) c h k = absurd (true≢false h)
not_before nan (fin t n d) c h k = absurd (true≢false h)
not_before (inf true) b nan h k = refl
not_before (inf true) b (inf true) h k = refl
not_before (inf true) b (inf false) h k = refl
not_before (inf true) b (fin u o f) h k = refl
not_before (inf false) b nan h k = refl
not_before (inf false) nan (inf true) h k = absurd (true≢false k)
not_before (inf false) (inf true) (inf true) h k = absurd (true≢false h)
not_before (inf false) (inf false) (inf true) h k = absurd (true≢false k)
not_before (inf false) (fin t n d) (inf true) h k = absurd (true≢false h)
not_before (inf false) b (inf false) h k = refl
not_before (inf false) nan (fin u o f) h k = absurd (true≢false k)
not_before (inf false) (inf true) (fin u o f) h k = absurd (true≢false h)
not_before (inf false) (inf false) (fin u o f) h k = absurd (true≢false k)
not_before (inf false) (fin t n d) (fin u o f) h k = absurd (true≢false h)
not_before (fin s m e) b nan h k = refl
not_before (fin s m e) nan (inf true) h k = absurd (true≢false k)
not_before (fin s m e) (inf true) (inf true) h k = absurd (true≢false h)
not_before (fin s m e) (inf false) (inf true) h k = absurd (true≢false k)
not_before (fin s m e) (fin t n d) (inf true) h k = absurd (true≢false k)
not_before (fin s m e) b (inf false) h k = refl
not_before (fin s m e) nan (fin u o f) h k = absurd (true≢false k)
not_before (fin s m e) (inf true) (fin u o f) h k = absurd (true≢false h)
not_before (fin s m e) (inf false) (fin u o f) h k = absurd (true≢false k)
not_before (fin s m e) (fin t n d) (fin u o f) h k =
    finite u o f s m e
    ∙ below_through (m * up e) (n * up d) (o * up f) (down e) (down d) (down f) (down_pos e) (down_pos d) (down_pos f) s t u (sym (finite t n d s m e) ∙ h) (sym (finite u o f t n d) ∙ k)

-- so what ranks before a second, which ranks before a third, ranks before the third
pub before_through : (a b c : Float) → ranks_before a b ≡ true → ranks_before b c ≡ true → ranks_before a c ≡ true
before_through a b c h k = either (ranks_before a c) refl
  where
    either : (x : Bool) → ranks_before a c ≡ x → ranks_before a c ≡ true
    either true e = e
    either false e = absurd (true≢false (sym h ∙ not_before b c a (once_before b c k) e))

-- and nothing ranks before itself
pub never_itself : (a : Float) → ranks_before a a ≡ false
never_itself a = either (ranks_before a a) refl
  where
    either : (x : Bool) → ranks_before a a ≡ x → ranks_before a a ≡ false
    either true e = once_before a a e
    either false e = e
