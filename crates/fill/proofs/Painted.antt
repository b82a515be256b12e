-- What stands where after a run was painted. Assumes nothing.
use Prim.Native.Nat.{ℕ, zero, suc, ◌+◌, ◌*◌, ◌<◌, ◌≤◌}
use native.Mathlib.Omega.{arith}
use native.Mathlib.Numerals.{add-one}
use mathlib.Core.Path.{◌≡◌, refl, ap, ◌∙◌}
use mathlib.Core.List.{List}
use mathlib.Core.Logic.{◌⊎◌, inl, inr, ⊎_elim}
use lib.ListN.{get_or, set, length, length-set}
use lib.Seq.{get_or-set_same, get_or-set_other}
use Rattle.pieces.specs.Picture.{px}
use Rattle.pieces.specs.Row.{InRow}
use Rattle.pieces.specs.declared.Row.{Row}
use Rattle.pieces.proofs.Numbers.{same, split}
use Rattle.pieces.proofs.Index.{in_picture, line_below}
use Rattle.fill.specs.Order.{width_of, paint_run, paint_row}

pub length_paint : (p : List ℕ) (i n t : ℕ) → length (paint_run p i n t) ≡ length p
unfolding paint_run
length_paint p i zero t = refl
length_paint p i (suc n) t = length-set (paint_run p i n t) (i + n) t ∙ length_paint p i n t

pub paint_out : (p : List ℕ) (i n t k : ℕ) → (k < i) ⊎ (i + n ≤ k) → get_or (paint_run p i n t) k 0 ≡ get_or p k 0
unfolding paint_run
paint_out p i zero t k h = refl
paint_out p i (suc n) t k h =
    get_or-set_other (paint_run p i n t) (i + n) k t 0 (λ e. ⊎_elim (λ a. omega arith) (λ a. omega arith) h)
    ∙ paint_out p i n t k (⊎_elim (λ a. inl a) (λ a. inr (omega arith)) h)

pub paint_in : (p : List ℕ) (i n t k : ℕ) → i + n ≤ length p → i ≤ k → k < i + n → get_or (paint_run p i n t) k 0 ≡ t
unfolding paint_run
paint_in p i zero t k r l h = absurd (omega arith)
paint_in p i (suc n) t k r l h =
    ⊎_elim
    (λ e.
    ap (λ (j : ℕ). get_or (set (paint_run p i n t) (i + n) t) j 0) e
    ∙ get_or-set_same (paint_run p i n t) (i + n) t 0 (omega (arith, length_paint p i n t)))
    (λ e.
    get_or-set_other (paint_run p i n t) (i + n) k t 0 e
    ∙ paint_in p i n t k (omega arith) l (omega arith))
    (same k (i + n))

-- as a loop has them
pub paint_none : (p : List ℕ) (i t : ℕ) → p ≡ paint_run p i 0 t
unfolding paint_run
paint_none p i t = refl

pub paint_one : (p : List ℕ) (i t : ℕ) → set p i t ≡ paint_run p i 1 t
unfolding paint_run
paint_one p i t = ap (λ (j : ℕ). set p j t) (omega arith)

pub paint_more : (p : List ℕ) (i n t : ℕ) → set (paint_run p i n t) (i + n) t ≡ paint_run p i (n + 1) t
unfolding paint_run
paint_more p i n t = rw (add-one) refl

-- a painted row: its pixels show t, and every other pixel is as it was
module _ (w h t : ℕ) (p : List ℕ) (r : Row) (size : length p ≡ w * h) (order : r.left ≤ r.right) (wide : r.right < w) (deep : r.y < h) where
  pub row_painted : (a b : ℕ) → InRow r a b → px (paint_row w t p r) w a b ≡ t
  unfolding paint_row
  row_painted a b q =
      let e = ap (λ (v : ℕ). v * w) q.0 in
      let g = in_picture w h p size r.right r.y wide deep in
      paint_in p (r.y * w + r.left) (width_of r) t (b * w + a) (omega arith) (omega arith) (omega arith)

  pub row_other : (a b : ℕ) → a < w → (InRow r a b → ⊥) → px (paint_row w t p r) w a b ≡ px p w a b
  unfolding paint_row
  row_other a b ha n =
      paint_out p (r.y * w + r.left) (width_of r) t (b * w + a)
      (⊎_elim
      (λ e.
      let z = ap (λ (v : ℕ). v * w) e in
      ⊎_elim (λ l. ⊎_elim (λ g. absurd (n (e, l, g))) (λ g. inr (omega arith)) (split a r.right)) (λ l. inl (omega arith)) (split r.left a))
      (λ ne.
      ⊎_elim
      (λ l. let z = line_below w r.y b r.right (omega arith) wide in inr (omega arith))
      (λ l. let z = line_below w b r.y a l ha in inl (omega arith))
      (split r.y b))
      (same r.y b))

  pub row_length : length (paint_row w t p r) ≡ length p
  unfolding paint_row
  row_length = length_paint p (r.y * w + r.left) (width_of r) t
