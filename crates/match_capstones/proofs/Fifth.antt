-- A stone is not in line both ways: no float that is not negative is below a fifth of itself, so two of them are not each below a fifth of the other. Assumes nothing.
use Prim.Native.Nat.{ℕ, zero, suc, ◌+◌, ◌*◌, ◌^◌, ◌≤◌}
use native.Mathlib.Nat.{mul-pos, mul_assoc, mul_left_comm, le_refl}
use native.Mathlib.Omega.{arith}
use mathlib.Core.Path.{◌≡◌, refl, sym, ap, ◌∙◌}
use mathlib.Core.Bool.{Bool, true, false, ◌||◌, true≢false, false≢true}
use borrow.Author.Tests.{eqb-true, le-ltb}
use lib.Dec.{T, eqb}
use lib.IntN.{ℤ}
use lib.Pow.{pow_pos}
use lib.Ieee.{Float, nan, inf, fin, binary64, up, down, below, level, lt, le, mul, round, fits, is_nan}
use lib.Ieee.Fits.{down_pos}
use lib.Ieee.Order.{round_mono, le_of_values}
use Rattle.floats.specs.Float64.{◌⊗◌}
use Rattle.match_capstones.specs.Neighbors.{absolute, fifth, in_line}
use Rattle.match_capstones.specs.Order.{ranks_before}
use Rattle.match_capstones.proofs.Floats.{and_both}
use Rattle.match_capstones.proofs.Exact.{own_rounding}
use Rattle.match_capstones.proofs.Before.{below_once, finite, once_before, not_before}

level_not_below : (s : Bool) (a : ℕ) (t : Bool) (b : ℕ) → level s a t b ≡ true → below t b s a ≡ false
level_not_below false a false b h = le-ltb b a (omega (arith, eqb-true a b (and_both _ _ h).0))
level_not_below false a true b h =
    let a0 = eqb-true a 0 (and_both (eqb a b) (eqb a 0) h).1 in
    let same = eqb-true a b (and_both (eqb a b) (eqb a 0) h).0 in
    le-ltb 0 (b + a) (omega arith)
level_not_below true a false b h = refl
level_not_below true a true b h = le-ltb a b (omega (arith, eqb-true a b (and_both _ _ h).0))

at_most : (s : Bool) (a : ℕ) (t : Bool) (b : ℕ) → (below s a t b || level s a t b) ≡ true → below t b s a ≡ false
at_most s a t b h = either (below s a t b) refl
  where
    either : (x : Bool) → below s a t b ≡ x → below t b s a ≡ false
    either true e = below_once s a t b e
    either false e = level_not_below s a t b (sym (ap (λ (x : Bool). x || level s a t b) e) ∙ h)

-- what is at most another is not ranked after it
pub not_after : (x y : Float) → le x y ≡ true → ranks_before y x ≡ false
unfolding le ranks_before lt is_nan
not_after nan y h = absurd (false≢true h)
not_after (inf s) nan h = absurd (false≢true h)
not_after (inf true) (inf true) h = refl
not_after (inf true) (inf false) h = refl
not_after (inf false) (inf true) h = absurd (false≢true h)
not_after (inf false) (inf false) h = refl
not_after (inf true) (fin t n d) h = refl
not_after (inf false) (fin t n d) h = absurd (false≢true h)
not_after (fin s m e) nan h = absurd (false≢true h)
not_after (fin s m e) (inf true) h = absurd (false≢true h)
not_after (fin s m e) (inf false) h = refl
not_after (fin s m e) (fin t n d) h = finite t n d s m e ∙ at_most s (m * up e * down d) t (n * up d * down e) h

in_line_before : (x y : Float) → in_line x y ≡ true → ranks_before x (fifth ⊗ y) ≡ true
unfolding in_line ranks_before
in_line_before x y h = rw h

holds : (b : Bool) → T b → b ≡ true
holds true t = refl
holds false t = absurd t

-- a fifth of a fraction is no more than the fraction
fifth_fraction : (x d : ℕ) → 3602879701896397 * x * d ≤ x * (2 ^ 54 * d)
fifth_fraction x d = rw (mul_assoc 3602879701896397 x d, mul_left_comm x (2 ^ 54) d) (omega arith)

unsigned : (s : Bool) (m : ℕ) (e : ℤ) → T (fits binary64 (fin s m e)) → T (fits binary64 (fin false m e))
unfolding fits
unsigned s zero e t = t
unsigned s (suc m) e t = t

finite_above_fifth : (m : ℕ) (e : ℤ) → T (fits binary64 (fin false m e)) → ranks_before (fin false m e) (fifth ⊗ fin false m e) ≡ false
unfolding mul
finite_above_fifth m e t =
    let x = m * up e in
    let d = down e in
    let itself = round binary64 false x d in
    let a-fifth = round binary64 false (3602879701896397 * x) (2 ^ 54 * d) in
    let lower = holds _ (round_mono binary64 (3602879701896397 * x) (2 ^ 54 * d) x d (mul-pos (pow_pos 54) (down_pos e)) (down_pos e) (fifth_fraction x d)) in
    let same = holds _ (le_of_values itself (fin false m e) x d x d (down_pos e) (down_pos e) (own_rounding binary64 m e t) (refl, refl) (le_refl (x * d))) in
    not_before a-fifth itself (fin false m e) (not_after a-fifth itself lower) (not_after itself (fin false m e) same)

-- a float without its sign is not below a fifth of itself
pub above_fifth : (x : Float) → T (fits binary64 x) → ranks_before (absolute x) (fifth ⊗ absolute x) ≡ false
unfolding absolute ranks_before mul lt is_nan
above_fifth nan t = refl
above_fifth (inf s) t = refl
above_fifth (fin s m e) t = finite_above_fifth m e (unsigned s m e t)

-- two floats, neither below a fifth of itself, are not each below a fifth of the other
pub one_way : (u v : Float) → ranks_before u (fifth ⊗ u) ≡ false → ranks_before v (fifth ⊗ v) ≡ false → in_line u v ≡ true → in_line v u ≡ true → ⊥
one_way u v hu hv a b = true≢false (sym (nearer v u hu b) ∙ once_before u v (nearer u v hv a))
  where
    nearer : (x y : Float) → ranks_before y (fifth ⊗ y) ≡ false → in_line x y ≡ true → ranks_before x y ≡ true
    nearer x y h k = either (ranks_before x y) refl
      where
        either : (t : Bool) → ranks_before x y ≡ t → ranks_before x y ≡ true
        either true e = e
        either false e = absurd (true≢false (sym (in_line_before x y k) ∙ not_before (fifth ⊗ y) y x h e))
