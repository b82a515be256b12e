-- Laws of `left_end` and `right_end`, one for each way that a loop's turn can go. Assumes nothing.
use Prim.Native.Nat.{ℕ, suc, ◌+◌, ◌*◌}
use mathlib.Core.Path.{◌≡◌, refl, sym, ap, ◌∙◌}
use mathlib.Core.List.{List}
use lib.ListN.{get_or}
use borrow.Author.Tests.{eq-eqb, ne_eqb}
use Rattle.pieces.specs.Picture.{px}
use Rattle.fill.specs.Order.{left_end, right_end}

module _ (p : List ℕ) (w f y : ℕ) where
  pub left_in : (x : ℕ) → px p w x y ≡ f → left_end p w f y (suc x) ≡ left_end p w f y x
  unfolding left_end
  left_in x e = rw (left_end, eq-eqb (px p w x y) f e)

  pub left_out : (x : ℕ) → (px p w x y ≡ f → ⊥) → left_end p w f y (suc x) ≡ suc x
  unfolding left_end
  left_out x e = rw (left_end, ne_eqb (px p w x y) f e)

  pub left_zero : left_end p w f y 0 ≡ 0
  unfolding left_end
  left_zero = refl

  pub right_in : (x n : ℕ) → px p w (suc x) y ≡ f → right_end p w f y x (suc n) ≡ right_end p w f y (suc x) n
  unfolding right_end
  right_in x n e = rw (right_end, eq-eqb (px p w (suc x) y) f e)

  pub right_out : (x n : ℕ) → (px p w (suc x) y ≡ f → ⊥) → right_end p w f y x (suc n) ≡ x
  unfolding right_end
  right_out x n e = rw (right_end, ne_eqb (px p w (suc x) y) f e)

  pub right_zero : (x : ℕ) → right_end p w f y x 0 ≡ x
  unfolding right_end
  right_zero x = refl

  -- as the code has them: the line's start in a local, and the next column as a sum or a difference
  module _ (base : ℕ) (at : base ≡ y * w) where
    pub left_in_at : (x k : ℕ) → x ≡ suc k → get_or p (base + k) 0 ≡ f → left_end p w f y x ≡ left_end p w f y k
    left_in_at x k e h = ap (left_end p w f y) e ∙ left_in k (ap (λ (b : ℕ). get_or p (b + k) 0) (sym at) ∙ h)

    pub left_out_at : (x k : ℕ) → x ≡ suc k → (get_or p (base + k) 0 ≡ f → ⊥) → left_end p w f y x ≡ x
    left_out_at x k e h = ap (left_end p w f y) e ∙ left_out k (λ g. h (ap (λ (b : ℕ). get_or p (b + k) 0) at ∙ g)) ∙ sym e

    pub right_in_at : (x k n m : ℕ) → k ≡ suc x → n ≡ suc m → get_or p (base + k) 0 ≡ f → right_end p w f y x n ≡ right_end p w f y k m
    right_in_at x k n m e e' h =
        ap (right_end p w f y x) e' ∙ right_in x m (ap (λ (b : ℕ). get_or p (y * w + b) 0) (sym e) ∙ ap (λ (b : ℕ). get_or p (b + k) 0) (sym at) ∙ h) ∙ ap (λ (b : ℕ). right_end p w f y b m) (sym e)

    pub right_out_at : (x k n m : ℕ) → k ≡ suc x → n ≡ suc m → (get_or p (base + k) 0 ≡ f → ⊥) → right_end p w f y x n ≡ x
    right_out_at x k n m e e' h =
        ap (right_end p w f y x) e' ∙ right_out x m (λ g. h (ap (λ (b : ℕ). get_or p (base + b) 0) e ∙ ap (λ (b : ℕ). get_or p (b + suc x) 0) at ∙ g))
