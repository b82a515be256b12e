-- Coordinates of a picture's points, their differences, and the scores made of them: all are well within an i32. Assumes nothing.
use Prim.Native.Nat.{ℕ, ◌+◌, ◌<◌, ◌≤◌}
use native.Mathlib.Omega.{arith}
use mathlib.Core.Path.{◌≡◌, refl}
use lib.Dec.{lit<}
use lib.IntN.{ℤ, nat_abs, ◌+ℤ◌, ◌-ℤ◌, ◌*ℤ◌}
use mir.Syntax.{w32}
use mir.Val.{SFits}
use Rattle.refusals.specs.Limits.{longest_side, farthest}
use Rattle.points.specs.declared.Point.{Point}
use Rattle.points.specs.Range.{Inside, Within, Near}
use Rattle.corners.specs.Rows.{point_at}
use Rattle.corners.specs.Scores.{Span, Direction, along_of, across_of, line_from}
use Rattle.corners.specs.Finders.{first_corner_from, all_corners_from, left_most_from}
use Rattle.corners.proofs.Signed.{Is, back, is_own, is_answer, is_fits, is_add, is_sub, is_mul}

pub point_within : {x y : ℕ} → x < longest_side → y < longest_side → Within (point_at x y)
point_within {x} {y} h k = record { x = record { n = x; is = refl; low = h }; y = record { n = y; is = refl; low = k } }

-- a pixel of a picture is no further out than a stated point may be
pub within_near : {p : Point} → Within p → Near p
within_near {p} P = record { x_low = low P.x; y_low = low P.y }
  where
    low : {z : ℤ} → Inside z → nat_abs z ≤ farthest
    low I = let h = I.low in rw I.is (omega arith)

is_inside : {z : ℤ} → Inside z → Is z z 799
is_inside h = is_own (let k = h.low in rw h.is (omega arith)) (lit< tt)

-- the difference of two coordinates, and the product of one with a direction's
pub is_apart : {a b : ℤ} → Inside a → Inside b → Is (back a -ℤ back b) (a -ℤ b) 1598
is_apart h k = is_sub (is_inside h) (is_inside k) (lit< tt)

pub is_scaled : {a b : ℤ} → Inside a → Span b → Is (back a *ℤ back b) (a *ℤ b) 15980000
is_scaled h k = is_mul (is_inside h) (is_own k.low (lit< tt)) (lit< tt)

-- that they fit, as a search looks for it
pub apart_fits : (a b : ℤ) → Inside a → Inside b → SFits w32 (back a -ℤ back b)
apart_fits a b h k = is_fits (is_apart h k)

module _ (a b : ℤ) (A : Inside a) (B : Span b) where
  pub scaled_fits : SFits w32 (back a *ℤ back b)
  scaled_fits = is_fits (is_scaled A B)

  module _ (c d : ℤ) (C : Inside c) (D : Span d) where
    pub sum_fits : SFits w32 (back (back a *ℤ back b) +ℤ back (back c *ℤ back d))
    sum_fits = is_fits (is_add (is_scaled A B) (is_scaled C D) (lit< tt))

    pub difference_fits : SFits w32 (back (back a *ℤ back b) -ℤ back (back c *ℤ back d))
    difference_fits = is_fits (is_sub (is_scaled A B) (is_scaled C D) (lit< tt))

-- what `along` and `across` answer
module _ {d p : Point} (D : Direction d) (P : Within p) {z : ℤ} where
  pub is_along : z ≡ along_of d p → Is z (along_of d p) 31960000
  unfolding along_of
  is_along e = is_answer e (is_add (is_scaled P.x D.x) (is_scaled P.y D.y) (lit< tt)).near (lit< tt)

  pub is_across : z ≡ across_of d p → Is z (across_of d p) 31960000
  unfolding across_of
  is_across e = is_answer e (is_sub (is_scaled P.y D.x) (is_scaled P.x D.y) (lit< tt)).near (lit< tt)

-- the difference of two coordinates that a stated point may have, and that it fits
pub is_way : (a b : ℤ) → nat_abs a ≤ farthest → nat_abs b ≤ farthest → Is (back a -ℤ back b) (a -ℤ b) (farthest + farthest)
is_way a b h k = is_sub (is_own {z = a} h (lit< tt)) (is_own {z = b} k (lit< tt)) (lit< tt)

pub way_fits : (a b : ℤ) → nat_abs a ≤ farthest → nat_abs b ≤ farthest → SFits w32 (back a -ℤ back b)
way_fits a b h k = is_fits (is_way a b h k)

-- the way between two such points is a direction
pub way_direction : {p q : Point} → Near p → Near q → Direction (line_from p q)
unfolding line_from
way_direction {p} {q} P Q =
    record {
      x = record { low = (is_way q.x p.x Q.x_low P.x_low).near };
      y = record { low = (is_way q.y p.y Q.y_low P.y_low).near };
    }

-- so the finders start ready for the rows of a picture
pub first_corner_ready : {p : Point} → Within p → Within (first_corner_from p).initial
unfolding first_corner_from
first_corner_ready P = P

pub all_corners_ready : {p q : Point} → Within p → Within q → Direction (all_corners_from p q).baseline
unfolding all_corners_from
all_corners_ready P Q = way_direction (within_near P) (within_near Q)

pub left_most_ready : {d : Point} (p : Point) → Direction d → Direction (left_most_from d p).line
unfolding left_most_from
left_most_ready p D = D
