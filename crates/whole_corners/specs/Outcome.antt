-- The perspective of whole corners at whole sides, bit for bit: by the integers, and one rounding a coefficient. Assumes nothing.
use Rattle.std.specs.Prelude.{ℕ, zero, suc, ◌*◌, ◌≡◌, ◌||◌, cond, ℤ, pos, negsuc, Float}
use Rattle.std.specs.Float.Ieee as Ieee
use Rattle.floats.specs.Float64.{◌⊘◌, float, epsilon}
use Rattle.geometry.specs.declared.Perspective.{Perspective}
use Rattle.geometry.specs.declared.Sight.{Sight}
use Rattle.geometry.specs.declared.Sight.TheVariants.{Made, Flat}
use Rattle.exact.specs.Signed.{value, quotient}
use Rattle.exact.specs.Formula.{Formula}
use Rattle.whole_corners.specs.Formulas.{Unknown, determinant, Part, N0, N1, N3, N4, N6, N7, WidthDen, HeightDen, formula}
use Rattle.whole_corners.specs.Frame.{Frame, sight, in_integers, in_signed, in_floats, ExactSteps}

module _ (f : Frame) where
  abbrev float_of : Part → Float
  float_of i = in_floats f (formula i)

  -- the coefficients in floats: each numerator over its denominator
  abbrev pub divided : Perspective
  divided = record {
    c0 = float_of N0 ⊘ float_of WidthDen;
    c1 = float_of N1 ⊘ float_of HeightDen;
    c2 = float f.p0.x;
    c3 = float_of N3 ⊘ float_of WidthDen;
    c4 = float_of N4 ⊘ float_of HeightDen;
    c5 = float f.p0.y;
    c6 = float_of N6 ⊘ float_of WidthDen;
    c7 = float_of N7 ⊘ float_of HeightDen;
  }

  -- the perspective by the formulas in floats
  unfoldable pub stepped : Sight
  stepped = cond (Ieee.lt (float_of WidthDen) epsilon || Ieee.lt (float_of HeightDen) epsilon) Flat (Made divided)

  -- n over d, each whole, rounded once
  abbrev over : Part → ℕ → Float
  over i d = quotient (in_signed f (formula i)) d

  -- the coefficients for a determinant d above 0: the nearest floats to the true quotients of whole numbers
  abbrev pub nearest : ℕ → Perspective
  nearest d = record {
    c0 = over N0 (f.w * d);
    c1 = over N1 (f.h * d);
    c2 = float f.p0.x;
    c3 = over N3 (f.w * d);
    c4 = over N4 (f.h * d);
    c5 = float f.p0.y;
    c6 = over N6 (f.w * d);
    c7 = over N7 (f.h * d);
  }

  -- the perspective by the determinant: flat unless it is above 0
  abbrev pub outcome : ℤ → Sight
  outcome (pos zero) = Flat
  outcome (pos (suc d)) = Made (nearest (suc d))
  outcome (negsuc d) = Flat

  pub record BitExact : Type 0 where
    -- the source's steps are those of the formulas in floats
    pub steps : sight f ≡ stepped
    -- none of them rounds before a division
    pub exact : (i : Part) → ExactSteps f (formula i)
    -- with or without a zero's sign, a formula comes to the same integer
    pub same : (t : Formula Unknown) → value (in_signed f t) ≡ in_integers f t
    -- so the perspective is the integers', with one rounding a coefficient
    pub result : sight f ≡ outcome (in_integers f determinant)
