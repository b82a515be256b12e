-- The perspective of whole corners takes the grid's origin to corner 0, with nothing lost: a map that is exact from end to end. Assumes nothing.
use Rattle.std.specs.Prelude.{Some}
use Prim.Native.Nat.{ℕ, zero, suc, ◌*◌, ◌^◌, ◌≤◌, ◌<◌, zero-le}
use native.Mathlib.Nat.{mul-one, mul_comm, mul_assoc, mul-pos, zero-lt-suc}
use native.Mathlib.Omega.{arith}
use mathlib.Core.Path.{◌≡◌, refl, sym, ap, ◌∙◌}
use mathlib.Core.Bool.{false, ◌&&◌}
use lib.Dec.{T, lit≤}
use lib.IntN.{ℤ, pos, negsuc, nat_abs}
use lib.Ieee as Ieee
use lib.Ieee.{Float, nan, inf, fin, up, down}
use lib.Ieee.Fits.{down_pos}
use lib.Ieee.Scale.{finite}
use borrow.Author.Tests.{lt-ltb, le-leb}
use Rattle.refusals.specs.Limits.{farthest}
use Rattle.refusals.specs.Finding.{found}
use Rattle.geometry.specs.declared.Perspective.{Perspective}
use Rattle.geometry.specs.declared.Sight.TheVariants.{Made}
use Rattle.geometry.specs.Map.{mapped, map_x, map_y, map_den, placed}
use Rattle.floats.specs.Float64.{◌⊕◌, ◌⊗◌, ◌⊘◌, float, one}
use Rattle.rounding.specs.Nearest.{half_up, held, nearest_of}
use Rattle.rounding.proofs.Only.{half_up_only}
use Rattle.exact.specs.Signed.{IsWhole, signed, quotient}
use Rattle.exact.proofs.Value.{size_signed}
use Rattle.exact.proofs.Step.{exactly, whole_int, whole_plus, whole_over}
use Rattle.exact.proofs.Zeros.{zero_of, plus_zeros, plus_nothing}
use Rattle.exact.proofs.Finite.{quotient_finite, zero_is, times_nothing}
use Rattle.whole_corners.specs.Formulas.{determinant, Part, N0, N1, N3, N4, N6, N7, formula}
use Rattle.whole_corners.specs.Frame.{Frame, InRange, sight, in_integers, in_signed}
use Rattle.whole_corners.specs.Outcome.{nearest, outcome}
use Rattle.whole_corners.proofs.Whole.{size_part, bit_exact}

-- ---- a whole number rounds to itself
nearest_own : (n d : ℕ) → 0 < d → half_up (n * d) d ≡ n
nearest_own n d h =
    let e : 2 * d * n ≡ 2 * (n * d) = mul_assoc 2 d n ∙ ap (λ (k : ℕ). 2 * k) (mul_comm d n) in
    sym (half_up_only (record { not_above = omega arith; not_below = omega arith }))

held_own : (z : ℤ) → nat_abs z < 2 ^ 31 → held (signed z).negative (signed z).size ≡ Some z
unfolding held
held_own (pos n) h = rw (lt-ltb n (2 ^ 31) h)
held_own (negsuc n) h = rw (le-leb (suc n) (2 ^ 31) (omega arith))

nearest_whole : {x : Float} (z : ℤ) → IsWhole x (signed z) → nat_abs z < 2 ^ 31 → nearest_of x ≡ Some z
unfolding nearest_of
nearest_whole {x = nan} z p h = absurd p.exact
nearest_whole {x = inf s} z p h = absurd p.exact
nearest_whole {x = fin s m e} z p h =
    rw (p.exact.0, sym (mul-one (m * up e)) ∙ p.exact.1, nearest_own (signed z).size (down e) (down_pos e)) (held_own z h)

-- ---- what is left of a coordinate's formula at the origin
abbrev origin : Float
origin = fin false 0 (pos 0)

left_over : (a b : Float) → T (finite a) → T (finite b) → (z : ℤ) → nat_abs z ≤ 2 ^ 53 → IsWhole (a ⊗ origin ⊕ b ⊗ origin ⊕ float z) (signed z)
left_over a b fa fb z h =
    let p = times_nothing a fa in
    let q = times_nothing b fb in
    let none : IsWhole (a ⊗ origin ⊕ b ⊗ origin) (zero_of (p.0 && q.0)) = rw plus_zeros at (whole_plus p.1 q.1 (rw plus_zeros zero-le)) in
    rw plus_nothing at (whole_plus none (whole_int z h) (rw (plus_nothing, size_signed) h))

one_is : float (pos 1) ≡ one
unfolding Ieee.of_int
one_is = refl

coordinate : (a b c d : Float) → T (finite a) → T (finite b) → T (finite c) → T (finite d) → (z : ℤ) → nat_abs z ≤ farthest
    → nearest_of ((a ⊗ origin ⊕ b ⊗ origin ⊕ float z) ⊘ (c ⊗ origin ⊕ d ⊗ origin ⊕ one)) ≡ Some z
coordinate a b c d fa fb fc fd z h =
    let over : (a ⊗ origin ⊕ b ⊗ origin ⊕ float z) ⊘ (c ⊗ origin ⊕ d ⊗ origin ⊕ one) ≡ quotient (signed z) 1 =
    whole_over 1 (left_over a b fa fb z (omega arith)) (rw one_is at (left_over c d fc fd (pos 1) (lit≤ tt))) (zero-lt-suc 0) refl in
    rw over (nearest_whole z (unfold quotient in exactly (signed z) (rw size_signed (omega arith))) (omega arith))

-- ---- the origin of a frame in range
module _ {f : Frame} (r : InRange f) (d : ℕ) where
  finite_over : (i : Part) (n : ℕ) → 0 < n → T (finite (quotient (in_signed f (formula i)) (n * suc d)))
  finite_over i n some = quotient_finite (in_signed f (formula i)) (n * suc d) (size_part r i) (mul-pos some (zero-lt-suc d))

  at_origin : mapped (nearest f (suc d)) origin origin ≡ found f.p0
  unfolding mapped map_x map_y map_den placed
  at_origin =
      let wide : (i : Part) → T (finite (quotient (in_signed f (formula i)) (f.w * suc d))) = λ i. finite_over i f.w r.wide in
      let high : (i : Part) → T (finite (quotient (in_signed f (formula i)) (f.h * suc d))) = λ i. finite_over i f.h r.high in
      rw (
        coordinate _ _ _ _ (wide N0) (high N1) (wide N6) (high N7) f.p0.x r.near0.x_low,
        coordinate _ _ _ _ (wide N3) (high N4) (wide N6) (high N7) f.p0.y r.near0.y_low,
      )

made_origin : {f : Frame} → InRange f → (d : ℤ) (p : Perspective) → outcome f d ≡ Made p → mapped p origin origin ≡ found f.p0
made_origin {f} r (pos zero) p e = let z : ◌≡◌ {A = ℕ} 0 1 = cc in absurd (omega arith)
made_origin {f} r (negsuc d) p e = let z : ◌≡◌ {A = ℕ} 0 1 = cc in absurd (omega arith)
made_origin {f} r (pos (suc d)) p e = let is : nearest f (suc d) ≡ p = cc in rw is at (at_origin r d)

-- the perspective of a frame in range takes the grid's origin to corner 0, with nothing lost
pub origin_mapped : {f : Frame} → InRange f → (p : Perspective) → sight f ≡ Made p → mapped p (float (pos 0)) (float (pos 0)) ≡ found f.p0
origin_mapped {f} r p e = rw zero_is (made_origin r (in_integers f determinant) p (sym (bit_exact r).result ∙ e))
