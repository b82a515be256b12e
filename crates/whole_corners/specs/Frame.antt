-- Whole corners at whole sides. Assumes nothing.
use Rattle.std.specs.Prelude.{ℕ, ◌^◌, ◌≤◌, ◌<◌, ℤ, pos, Float}
use Rattle.floats.specs.Float64.{float}
use Rattle.points.specs.declared.Point.{Point}
use Rattle.points.specs.Range.{Near}
use Rattle.geometry.specs.declared.Sight.{Sight}
use Rattle.geometry.specs.Create.{sight_of}
use Rattle.exact.specs.Signed.{Signed, signed}
use Rattle.exact.specs.Formula.{Formula, worth, floats, integers, signeds, Exact}
use Rattle.whole_corners.specs.Formulas.{Unknown, X0, Y0, X1, Y1, X2, Y2, X3, Y3, Width, Height}

-- four corners in a picture, and the sides of the rectangle whose corners they are to be
pub record Frame : Type 0 where
  pub p0 : Point
  pub p1 : Point
  pub p2 : Point
  pub p3 : Point
  pub w : ℕ
  pub h : ℕ

-- the corners are no further out than a stated point may be (refusal 12), and the sides are from 1 to 2 ^ 16
pub record InRange (f : Frame) : Type 0 where
  pub near0 : Near f.p0
  pub near1 : Near f.p1
  pub near2 : Near f.p2
  pub near3 : Near f.p3
  pub wide : 0 < f.w
  pub high : 0 < f.h
  pub w_low : f.w ≤ 2 ^ 16
  pub h_low : f.h ≤ 2 ^ 16

module _ (f : Frame) where
  -- the frame's perspective, by the source's steps
  abbrev pub sight : Sight
  sight = sight_of f.p0 f.p1 f.p2 f.p3 (float (pos f.w)) (float (pos f.h))

  -- the integer that each unknown is
  abbrev pub given : Unknown → ℤ
  given X0 = f.p0.x
  given Y0 = f.p0.y
  given X1 = f.p1.x
  given Y1 = f.p1.y
  given X2 = f.p2.x
  given Y2 = f.p2.y
  given X3 = f.p3.x
  given Y3 = f.p3.y
  given Width = pos f.w
  given Height = pos f.h

  -- what a formula comes to in the integers
  abbrev pub in_integers : Formula Unknown → ℤ
  in_integers t = worth integers given t

  -- the same with a sign, a zero's too
  abbrev pub in_signed : Formula Unknown → Signed
  in_signed t = worth signeds (λ u. signed (given u)) t

  -- the same in floats, each step rounded
  abbrev pub in_floats : Formula Unknown → Float
  in_floats t = worth floats (λ u. float (given u)) t

  -- no step of the formula in floats rounds
  abbrev pub ExactSteps : Formula Unknown → Type 0
  ExactSteps t = Exact (λ u. float (given u)) (λ u. signed (given u)) t
