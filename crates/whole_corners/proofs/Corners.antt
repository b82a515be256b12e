-- The formulas are plane geometry's: with nothing rounded, the rectangle's corners are taken to the frame's. Assumes nothing.
use Prim.Native.Nat.{ℕ}
use mathlib.Core.Path.{refl}
use mathlib.Core.List.{List, [], ◌∷◌}
use lib.IntN.{ℤ, pos}
use Rattle.sizes.proofs.Algebra.{Term, var, lit, ⊝, ◌⊕◌, ◌⊖◌, ◌⊗◌, same_terms}
use Rattle.exact.specs.Formula.{Formula, unknown, ◌:+◌, ◌:-◌, ◌:*◌, negated, worth}
use Rattle.whole_corners.specs.Formulas.{Unknown, X0, Y0, X1, Y1, X2, Y2, X3, Y3, Width, Height, Part, N0, N1, N3, N4, N6, N7, formula, determinant}
use Rattle.whole_corners.specs.Frame.{Frame}
use Rattle.whole_corners.specs.Taken.{TakesCorners}

-- ---- the unknowns by their places in a list, and a formula over them
abbrev values : Frame → List ℤ
values f = pos f.w ∷ pos f.h ∷ f.p0.x ∷ f.p0.y ∷ f.p1.x ∷ f.p1.y ∷ f.p2.x ∷ f.p2.y ∷ f.p3.x ∷ f.p3.y ∷ []

abbrev place : Unknown → ℕ
place Width = 0
place Height = 1
place X0 = 2
place Y0 = 3
place X1 = 4
place Y1 = 5
place X2 = 6
place Y2 = 7
place X3 = 8
place Y3 = 9

abbrev term : Formula Unknown → Term
term (unknown u) = var (place u)
term (a :+ b) = term a ⊕ term b
term (a :- b) = term a ⊖ term b
term (a :* b) = term a ⊗ term b
term (negated a) = ⊝ (term a)

abbrev at : Unknown → Term
at u = var (place u)

abbrev scaled : Term
scaled = at Width ⊗ at Height ⊗ term determinant

-- a numerator n over the width and m over the height, at (u, v)
abbrev mixed : Part → Part → Term → Term → Term
mixed n m u v = term (formula n) ⊗ at Height ⊗ u ⊕ term (formula m) ⊗ at Width ⊗ v

abbrev across_at : Term → Term → Term
across_at u v = mixed N0 N1 u v ⊕ at X0 ⊗ scaled

abbrev down_at : Term → Term → Term
down_at u v = mixed N3 N4 u v ⊕ at Y0 ⊗ scaled

abbrev depth_at : Term → Term → Term
depth_at u v = mixed N6 N7 u v ⊕ scaled

-- twice the area of the triangle (a, b) (c, d) (e, g), and w h times that
abbrev area_of : (a b c d e g : Unknown) → Term
area_of a b c d e g = (at c ⊖ at a) ⊗ (at g ⊖ at b) ⊖ (at e ⊖ at a) ⊗ (at d ⊖ at b)

abbrev triangle : (a b c d e g : Unknown) → Term
triangle a b c d e g = at Width ⊗ at Height ⊗ area_of a b c d e g

abbrev nil : Term
nil = lit (pos 0)

-- ---- each fact is one of polynomials
pub takes_corners : (f : Frame) → TakesCorners f
unfolding worth formula determinant
takes_corners f = record {
  corner0 = record {
    x = same_terms (values f) (across_at nil nil) (at X0 ⊗ depth_at nil nil) refl;
    y = same_terms (values f) (down_at nil nil) (at Y0 ⊗ depth_at nil nil) refl;
  };
  corner1 = record {
    x = same_terms (values f) (across_at (at Width) nil) (at X1 ⊗ depth_at (at Width) nil) refl;
    y = same_terms (values f) (down_at (at Width) nil) (at Y1 ⊗ depth_at (at Width) nil) refl;
  };
  corner2 = record {
    x = same_terms (values f) (across_at (at Width) (at Height)) (at X2 ⊗ depth_at (at Width) (at Height)) refl;
    y = same_terms (values f) (down_at (at Width) (at Height)) (at Y2 ⊗ depth_at (at Width) (at Height)) refl;
  };
  corner3 = record {
    x = same_terms (values f) (across_at nil (at Height)) (at X3 ⊗ depth_at nil (at Height)) refl;
    y = same_terms (values f) (down_at nil (at Height)) (at Y3 ⊗ depth_at nil (at Height)) refl;
  };
  turn = same_terms (values f) (term determinant) (area_of X1 Y1 X2 Y2 X3 Y3) refl;
  depth0 = same_terms (values f) (depth_at nil nil) (triangle X1 Y1 X2 Y2 X3 Y3) refl;
  depth1 = same_terms (values f) (depth_at (at Width) nil) (triangle X0 Y0 X2 Y2 X3 Y3) refl;
  depth2 = same_terms (values f) (depth_at (at Width) (at Height)) (triangle X0 Y0 X1 Y1 X3 Y3) refl;
  depth3 = same_terms (values f) (depth_at nil (at Height)) (triangle X0 Y0 X1 Y1 X2 Y2) refl;
}
