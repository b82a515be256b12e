-- The two denominators are the sides times one determinant, and are 0 or less where it is. Assumes nothing.
use Prim.Native.Nat.{ℕ, zero, suc, ◌*◌, ◌<◌}
use native.Mathlib.Nat.{mul-zero, mul-pos, zero-lt-suc}
use mathlib.Core.Path.{◌≡◌, refl, sym, ap, ◌∙◌}
use mathlib.Core.Bool.{true}
use mathlib.Core.List.{[], ◌∷◌}
use lib.IntN.{ℤ, pos, negsuc, neg_ℤ, ◌+ℤ◌, ◌-ℤ◌, ◌*ℤ◌}
use lib.Signed.{le_z}
use borrow.Author.Tests.{lt-leb}
use Rattle.sizes.proofs.Algebra.{var, ◌⊕◌, ◌⊖◌, same_terms}
use Rattle.exact.specs.Formula.{worth}
use Rattle.whole_corners.specs.Formulas.{determinant, WidthDen, HeightDen, formula}
use Rattle.whole_corners.specs.Frame.{Frame, in_integers}

reorder : (a b c d : ℤ) → a +ℤ d -ℤ b +ℤ c ≡ a -ℤ b +ℤ c +ℤ d
reorder a b c d =
    same_terms (a ∷ b ∷ c ∷ d ∷ []) (var 0 ⊕ var 3 ⊖ var 1 ⊕ var 2) (var 0 ⊖ var 1 ⊕ var 2 ⊕ var 3) refl

pub width_is : (f : Frame) → in_integers f (formula WidthDen) ≡ pos f.w *ℤ in_integers f determinant
unfolding worth formula determinant
width_is f = refl

pub height_is : (f : Frame) → in_integers f (formula HeightDen) ≡ pos f.h *ℤ in_integers f determinant
unfolding worth formula determinant
height_is f =
    ap (λ (z : ℤ). pos f.h *ℤ z)
    (reorder (f.p2.x *ℤ f.p3.y) (f.p3.x *ℤ f.p2.y) ((f.p3.x -ℤ f.p2.x) *ℤ f.p1.y) (f.p1.x *ℤ (f.p2.y -ℤ f.p3.y)))

-- a side times the determinant is 0 or less where the determinant is
pub side_sign : (n : ℕ) (d : ℤ) → 0 < n → le_z (pos n *ℤ d) (pos 0) ≡ le_z d (pos 0)
side_sign n (pos zero) p = rw mul-zero
side_sign n (pos (suc d)) p = lt-leb (n * suc d) 0 (mul-pos p (zero-lt-suc d)) ∙ sym (lt-leb (suc d) 0 (zero-lt-suc d))
side_sign n (negsuc d) p = low (n * suc d)
  where
    low : (k : ℕ) → le_z (neg_ℤ (pos k)) (pos 0) ≡ true
    low zero = refl
    low (suc k) = refl
