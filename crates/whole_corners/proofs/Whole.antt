-- The perspective of whole corners, bit for bit, for every frame in range. Assumes nothing.
use Prim.Native.Nat.{ℕ, zero, suc, ◌*◌, ◌^◌, ◌≤◌, ◌<◌}
use native.Mathlib.Nat.{le_trans, mul-pos, zero-lt-suc}
use mathlib.Core.Path.{◌≡◌, refl, ap, ◌∙◌, fun_ext}
use mathlib.Core.Bool.{◌||◌, cond}
use lib.Dec.{lit≤}
use lib.IntN.{ℤ, pos, negsuc, nat_abs, ◌*ℤ◌}
use lib.Signed.{le_z}
use lib.Ieee as Ieee
use borrow.Author.Tests.{lt-leb}
use Rattle.refusals.specs.Limits.{farthest}
use Rattle.floats.specs.Float64.{◌⊘◌, float, epsilon}
use Rattle.geometry.specs.declared.Sight.TheVariants.{Made, Flat}
use Rattle.exact.specs.Signed.{IsWhole, signed, value, quotient}
use Rattle.exact.specs.Formula.{Formula, worth, integers, sizes}
use Rattle.exact.proofs.Value.{value_signed, size_signed}
use Rattle.exact.proofs.Step.{whole_int, whole_over, below_epsilon}
use Rattle.exact.proofs.Steps.{worth_size, exact_steps, last_step, worth_value}
use Rattle.whole_corners.specs.Formulas.{Unknown, X0, Y0, X1, Y1, X2, Y2, X3, Y3, Width, Height, determinant, Part, N0, N1, N3, N4, N6, N7, WidthDen, HeightDen, formula}
use Rattle.whole_corners.specs.Frame.{Frame, InRange, given, in_integers, in_signed, in_floats, ExactSteps}
use Rattle.whole_corners.specs.Outcome.{divided, stepped, nearest, outcome, BitExact}
use Rattle.whole_corners.proofs.Source.{source_steps}
use Rattle.whole_corners.proofs.Denominators.{width_is, height_is, side_sign}

-- no unknown is larger
abbrev most : Unknown → ℕ
most X0 = farthest
most Y0 = farthest
most X1 = farthest
most Y1 = farthest
most X2 = farthest
most Y2 = farthest
most X3 = farthest
most Y3 = farthest
most Width = 2 ^ 16
most Height = 2 ^ 16

low : {f : Frame} → InRange f → (u : Unknown) → nat_abs (given f u) ≤ most u
low r X0 = r.near0.x_low
low r Y0 = r.near0.y_low
low r X1 = r.near1.x_low
low r Y1 = r.near1.y_low
low r X2 = r.near2.x_low
low r Y2 = r.near2.y_low
low r X3 = r.near3.x_low
low r Y3 = r.near3.y_low
low r Width = r.w_low
low r Height = r.h_low

-- so no unknown and no step goes beyond 2 ^ 53
low_unknown : (u : Unknown) → most u ≤ 2 ^ 53
low_unknown X0 = lit≤ tt
low_unknown Y0 = lit≤ tt
low_unknown X1 = lit≤ tt
low_unknown Y1 = lit≤ tt
low_unknown X2 = lit≤ tt
low_unknown Y2 = lit≤ tt
low_unknown X3 = lit≤ tt
low_unknown Y3 = lit≤ tt
low_unknown Width = lit≤ tt
low_unknown Height = lit≤ tt

low_step : (i : Part) → worth sizes most (formula i) ≤ 2 ^ 53
unfolding worth formula
low_step N0 = lit≤ tt
low_step N1 = lit≤ tt
low_step N3 = lit≤ tt
low_step N4 = lit≤ tt
low_step N6 = lit≤ tt
low_step N7 = lit≤ tt
low_step WidthDen = lit≤ tt
low_step HeightDen = lit≤ tt

same_integer : (f : Frame) (t : Formula Unknown) → value (in_signed f t) ≡ in_integers f t
same_integer f t =
    worth_value (λ u. signed (given f u)) t ∙ ap (λ (at : Unknown → ℤ). worth integers at t) (fun_ext (λ u. value_signed (given f u)))

module _ {f : Frame} (r : InRange f) where
  low_size : (u : Unknown) → (signed (given f u)).size ≤ most u
  low_size u = rw size_signed (low r u)

  exact_part : (i : Part) → ExactSteps f (formula i)
  exact_part i =
      exact_steps (λ u. float (given f u)) (λ u. signed (given f u)) most (λ u. whole_int (given f u) (le_trans (low r u) (low_unknown u)))
      low_size (formula i) (low_step i)

  pub size_part : (i : Part) → (in_signed f (formula i)).size ≤ 2 ^ 53
  size_part i = le_trans (worth_size (λ u. signed (given f u)) most low_size (formula i)) (low_step i)

  whole : (i : Part) → IsWhole (in_floats f (formula i)) (in_signed f (formula i))
  whole i = last_step (λ u. float (given f u)) (λ u. signed (given f u)) (formula i) (exact_part i)

  -- a denominator, a side of n times the determinant: when it is below EPSILON, and a numerator over it
  module _ (j : Part) (n : ℕ) (some : 0 < n) (is : in_integers f (formula j) ≡ pos n *ℤ in_integers f determinant) where
    below : Ieee.lt (in_floats f (formula j)) epsilon ≡ le_z (in_integers f determinant) (pos 0)
    below = below_epsilon (whole j) ∙ ap (λ (z : ℤ). le_z z (pos 0)) (same_integer f (formula j) ∙ is) ∙ side_sign n (in_integers f determinant) some

    over : (i : Part) (d : ℕ) → in_integers f determinant ≡ pos (suc d)
        → in_floats f (formula i) ⊘ in_floats f (formula j) ≡ quotient (in_signed f (formula i)) (n * suc d)
    over i d e =
        whole_over (n * suc d) (whole i) (whole j) (mul-pos some (zero-lt-suc d)) (same_integer f (formula j) ∙ is ∙ ap (λ (z : ℤ). pos n *ℤ z) e)

  coefficients_are : (d : ℕ) → in_integers f determinant ≡ pos (suc d) → divided f ≡ nearest f (suc d)
  coefficients_are d e =
      let wide : (i : Part) → in_floats f (formula i) ⊘ in_floats f (formula WidthDen) ≡ quotient (in_signed f (formula i)) (f.w * suc d) =
      λ i. over WidthDen f.w r.wide (width_is f) i d e in
      let high : (i : Part) → in_floats f (formula i) ⊘ in_floats f (formula HeightDen) ≡ quotient (in_signed f (formula i)) (f.h * suc d) =
      λ i. over HeightDen f.h r.high (height_is f) i d e in
      λ k. record {
        c0 = wide N0 k;
        c1 = high N1 k;
        c2 = float f.p0.x;
        c3 = wide N3 k;
        c4 = high N4 k;
        c5 = float f.p0.y;
        c6 = wide N6 k;
        c7 = high N7 k;
      }

  judged : (d : ℤ) → in_integers f determinant ≡ d → cond (le_z d (pos 0) || le_z d (pos 0)) Flat (Made (divided f)) ≡ outcome f d
  judged (pos zero) e = refl
  judged (negsuc d) e = refl
  judged (pos (suc d)) e = rw (lt-leb (suc d) 0 (zero-lt-suc d)) (ap Made (coefficients_are d e))

  stepped_is : stepped f ≡ outcome f (in_integers f determinant)
  unfolding stepped
  stepped_is = rw (below WidthDen f.w r.wide (width_is f), below HeightDen f.h r.high (height_is f)) (judged (in_integers f determinant) refl)

-- whole corners, no further out than a stated point may be, at sides from 1 to 2 ^ 16: the perspective is known bit for bit
pub bit_exact : {f : Frame} → InRange f → BitExact f
bit_exact {f} r = record {
  steps = source_steps f;
  exact = exact_part r;
  same = same_integer f;
  result = source_steps f ∙ stepped_is r;
}
