-- The row that the rule finds at a pixel is a row of the pixels that show its byte. Assumes nothing.
use Prim.Native.Nat.{ℕ, zero, suc, ◌+◌, ◌-◌, ◌<◌, ◌≤◌}
use native.Mathlib.Omega.{arith}
use mathlib.Core.Path.{◌≡◌, refl, sym, ap, ◌∙◌, subst}
use mathlib.Core.List.{List}
use mathlib.Core.Logic.{⊎_elim}
use Rattle.pieces.specs.Picture.{px}
use Rattle.pieces.specs.Piece.{Same}
use Rattle.pieces.specs.Row.{row, RowOf, InRow}
use Rattle.pieces.proofs.Numbers.{split, same}
use Rattle.fill.specs.Order.{left_end, right_end, row_at}
use Rattle.fill.proofs.Ends.{left_in, left_out, left_zero, right_in, right_out, right_zero}

-- l is the left end of the bytes f that lead to column x; r is the right end, at most n columns on
LeftOf : List ℕ → ℕ → ℕ → ℕ → ℕ → ℕ → Type 0
LeftOf p w f y x l = (l ≤ x) × ((k : ℕ) → l ≤ k → k < x → px p w k y ≡ f) × ((k : ℕ) → suc k ≡ l → px p w k y ≡ f → ⊥)

RightOf : List ℕ → ℕ → ℕ → ℕ → ℕ → ℕ → ℕ → Type 0
RightOf p w f y x n r = (x ≤ r) × (r ≤ x + n) × ((k : ℕ) → x < k → k ≤ r → px p w k y ≡ f) × (r < x + n → px p w (suc r) y ≡ f → ⊥)

module _ (p : List ℕ) (w f y : ℕ) where
  left_grow : (x l : ℕ) → px p w x y ≡ f → LeftOf p w f y x l → LeftOf p w f y (suc x) l
  unfolding LeftOf
  left_grow x l e h = (
    omega arith,
    (λ k a b. ⊎_elim (λ q. ap (λ (j : ℕ). px p w j y) q ∙ e) (λ q. h.1 k a (omega arith)) (same k x)),
    h.2,
  )

  left_stop : (x : ℕ) → (px p w x y ≡ f → ⊥) → LeftOf p w f y (suc x) (suc x)
  unfolding LeftOf
  left_stop x n = (
    omega arith,
    (λ k a b. absurd (omega arith)),
    (λ k q e. let z : k ≡ x = omega arith in n (ap (λ (j : ℕ). px p w j y) (sym z) ∙ e)),
  )

  left_none : LeftOf p w f y 0 0
  unfolding LeftOf
  left_none = (omega arith, (λ k a b. absurd (omega arith)), (λ k a b. omega arith))

  left_of : (x : ℕ) → LeftOf p w f y x (left_end p w f y x)
  left_of zero = subst (LeftOf p w f y 0) (sym (left_zero p w f y)) left_none
  left_of (suc x) =
      ⊎_elim
      (λ e. subst (LeftOf p w f y (suc x)) (sym (left_in p w f y x e)) (left_grow x (left_end p w f y x) e (left_of x)))
      (λ n. subst (LeftOf p w f y (suc x)) (sym (left_out p w f y x n)) (left_stop x n))
      (same (px p w x y) f)

  right_grow : (x n r : ℕ) → px p w (suc x) y ≡ f → RightOf p w f y (suc x) n r → RightOf p w f y x (suc n) r
  unfolding RightOf
  right_grow x n r e h = (
    omega arith,
    omega arith,
    (λ k a b. ⊎_elim (λ q. ap (λ (j : ℕ). px p w j y) q ∙ e) (λ q. h.2 k (omega arith) b) (same k (suc x))),
    (λ a. h.3 (omega arith)),
  )

  right_stop : (x n : ℕ) → (px p w (suc x) y ≡ f → ⊥) → RightOf p w f y x (suc n) x
  unfolding RightOf
  right_stop x n e = (omega arith, omega arith, (λ k a b. absurd (omega arith)), (λ a. e))

  right_none : (x : ℕ) → RightOf p w f y x 0 x
  unfolding RightOf
  right_none x = (omega arith, omega arith, (λ k a b. absurd (omega arith)), (λ a b. omega arith))

  right_of : (x n : ℕ) → RightOf p w f y x n (right_end p w f y x n)
  right_of x zero = subst (RightOf p w f y x 0) (sym (right_zero p w f y x)) (right_none x)
  right_of x (suc n) =
      ⊎_elim
      (λ e. subst (RightOf p w f y x (suc n)) (sym (right_in p w f y x n e)) (right_grow x n (right_end p w f y (suc x) n) e (right_of (suc x) n)))
      (λ e. subst (RightOf p w f y x (suc n)) (sym (right_out p w f y x n e)) (right_stop x n e))
      (same (px p w (suc x) y) f)

  bounded : (h x l r n : ℕ) → x < w → y < h → px p w x y ≡ f → LeftOf p w f y x l → RightOf p w f y x n r → x + n + 1 ≡ w → RowOf (Same p w h f) (row l r y)
  unfolding LeftOf RightOf
  bounded h x l r n hx hy e hl hr en =
      record {
        order = omega arith;
        all = λ k a b. (omega arith, hy, ⊎_elim (λ q. ap (λ (j : ℕ). px p w j y) q ∙ e) (λ q. ⊎_elim (λ g. hr.2 k (omega arith) b) (λ g. hl.1 k a g) (split x k)) (same k x));
        before = λ k q s. hl.2 k q s.2;
        after = λ s. hr.3 (omega (arith, s.0)) s.2;
      }

  -- the row at a pixel of byte f is a row of such pixels, and holds the pixel
  pub row_at_lem : (h x : ℕ) → x < w → y < h → px p w x y ≡ f → RowOf (Same p w h f) (row_at w f p x y)
  unfolding row_at
  row_at_lem h x hx hy e = bounded h x (left_end p w f y x) (right_end p w f y x (w - 1 - x)) (w - 1 - x) hx hy e (left_of x) (right_of x (w - 1 - x)) (omega arith)

  pub row_at_holds : (x : ℕ) → InRow (row_at w f p x y) x y
  unfolding row_at LeftOf RightOf
  row_at_holds x = (refl, (left_of x).0, (right_of x (w - 1 - x)).0)
