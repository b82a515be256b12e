-- The rule's rows and pushes are the piece's: every row of it is met, and once; their pixels are its pixels, counted once; and the pushes are 1 more than its pairs of overlapping rows. Assumes nothing.
use Prim.Native.Nat.{ℕ}
use native.Mathlib.Omega.{arith}
use mathlib.Core.Path.{◌≡◌, refl, sym, subst}
use mathlib.Core.List.{List, [], ◌∷◌}
use lib.ListN.{length}
use Rattle.pieces.specs.Picture.{px}
use Rattle.pieces.specs.Count.{Lists}
use Rattle.pieces.specs.Piece.{Piece, Pixels}
use Rattle.pieces.specs.Row.{RowOf, Rows}
use Rattle.pieces.specs.Pairs.{Pushes}
use Rattle.pieces.specs.Paint.{Paints}
use Rattle.pieces.specs.declared.Row.{Row}
use Rattle.fill.specs.Order.{State, filled, rows_met, entries_pushed}
use Rattle.fill.specs.Fold.{folded, one_more, width_more}
use Rattle.fill.proofs.Underway.{Task, Valid, Underway}
use Rattle.fill.proofs.Whole.{whole_paints, whole_rows, whole_pixels}
use Rattle.fill.proofs.Filling.{task_of, filled_is, underway_end, pushes_end}

rows_length : (R : List Row) → length R ≡ folded one_more 0 R
unfolding folded
rows_length [] = refl
rows_length (r ∷ R) = omega (arith, rows_length R)

module _ {p : List ℕ} {w h x y t : ℕ} (ok : Valid (task_of p w h x y t)) where
  abbrev T : Task
  T = task_of p w h x y t

  ended : Underway T (filled p w h x y t).pic [] (rows_met p w h x y t)
  ended = subst (λ (s : State). Underway T s.pic [] s.rows) (sym (filled_is T ok)) (underway_end T ok)

  -- the picture that the rule ends with is the one with the piece painted
  pub rule_paints : Paints p w h x y t (filled p w h x y t).pic
  rule_paints = whole_paints ended

  -- so that a pixel which the rule leaves is not of the piece
  pub not_painted : (a b : ℕ) → (px (filled p w h x y t).pic w a b ≡ t → ⊥) → Piece p w h x y a b → ⊥
  not_painted a b n c = n (rule_paints.piece a b c)

  pub rows_met_lem : Lists (RowOf (Piece p w h x y)) (rows_met p w h x y t)
  rows_met_lem = whole_rows ended

  pub rows_counted : Rows (Piece p w h x y) (folded one_more 0 (rows_met p w h x y t))
  rows_counted = record { list = rows_met p w h x y t; lists = rows_met_lem; count = rows_length (rows_met p w h x y t) }

  pub pixels_counted : Pixels (Piece p w h x y) (folded width_more 0 (rows_met p w h x y t))
  pixels_counted = whole_pixels ended

  pub pushes_counted : Pushes (Piece p w h x y) (entries_pushed p w h x y t)
  pushes_counted = subst (λ (s : State). Pushes (Piece p w h x y) s.pushed) (sym (filled_is T ok)) (pushes_end T ok)
