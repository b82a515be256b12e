-- What a fill has left to do falls with each turn: a row of n pixels paints n and pushes at most 2 n entries. Assumes nothing.
use Prim.Native.Nat.{ℕ, zero, suc, ◌+◌, ◌*◌, ◌<◌, ◌≤◌}
use native.Mathlib.Omega.{arith}
use mathlib.Core.Path.{◌≡◌, sym, ap, ◌∙◌}
use mathlib.Core.List.{List, [], ◌∷◌}
use mathlib.Core.Bool.{true, false}
use mathlib.Core.Logic.{inr, ⊎_elim}
use lib.ListN.{get_or, set, length}
use lib.Dec.{eqb}
use borrow.Author.Tests.{eq-eqb, ne_eqb}
use Rattle.pieces.specs.Picture.{px, Pixel}
use Rattle.pieces.specs.Piece.{Same}
use Rattle.pieces.specs.Row.{RowOf}
use Rattle.pieces.specs.declared.Row.{Row}
use Rattle.pieces.proofs.Numbers.{same}
use Rattle.pieces.proofs.Index.{in_picture}
use Rattle.fill.specs.Order.{width_of, row_at, paint_run, paint_row, Turned, meet, turn}
use Rattle.fill.proofs.Painted.{length_paint, paint_out}
use Rattle.fill.proofs.Lines.{seeded_few}
use Rattle.fill.proofs.Underway.{Task, Underway}
use Rattle.fill.proofs.Turns.{turn_passed, turn_met, entry_row}

-- how many bytes are b
of_byte : ℕ → List ℕ → ℕ
of_byte b [] = 0
of_byte b (a ∷ l) = elim (eqb a b) [ true ↦ suc (of_byte b l) | false ↦ of_byte b l ]

-- what is left to do of a fill from the byte b, with sp entries on the stack
pub to_do : ℕ → List ℕ → ℕ → ℕ
to_do b p sp = 3 * of_byte b p + sp

module _ (b : ℕ) where
  of_yes : (a : ℕ) (l : List ℕ) → a ≡ b → of_byte b (a ∷ l) ≡ suc (of_byte b l)
  unfolding of_byte
  of_yes a l e = rw (of_byte, eq-eqb a b e)

  of_no : (a : ℕ) (l : List ℕ) → (a ≡ b → ⊥) → of_byte b (a ∷ l) ≡ of_byte b l
  unfolding of_byte
  of_no a l e = rw (of_byte, ne_eqb a b e)

  -- a byte b less
  of_set : (l : List ℕ) (i t : ℕ) → i < length l → get_or l i 0 ≡ b → (t ≡ b → ⊥) → of_byte b (set l i t) + 1 ≡ of_byte b l
  of_set [] i t h e n = absurd (omega arith)
  of_set (a ∷ l) zero t h e n = omega (arith, of_no t l n, of_yes a l e)
  of_set (a ∷ l) (suc i) t h e n =
      ⊎_elim
      (λ q. omega (arith, of_yes a (set l i t) q, of_yes a l q, of_set l i t (omega arith) e n))
      (λ q. omega (arith, of_no a (set l i t) q, of_no a l q, of_set l i t (omega arith) e n))
      (same a b)

  -- n bytes b less
  of_run : (p : List ℕ) (i n t : ℕ) → i + n ≤ length p → ((k : ℕ) → k < n → get_or p (i + k) 0 ≡ b) → (t ≡ b → ⊥) → of_byte b (paint_run p i n t) + n ≡ of_byte b p
  unfolding paint_run
  of_run p i zero t h g ne = omega arith
  of_run p i (suc n) t h g ne =
      let here : get_or (paint_run p i n t) (i + n) 0 ≡ b = paint_out p i n t (i + n) (inr (omega arith)) ∙ g n (omega arith) in
      let one = of_set (paint_run p i n t) (i + n) t (omega (arith, length_paint p i n t)) here ne in
      omega (arith, of_run p i n t (omega arith) (λ k l. g k (omega arith)) ne)

  -- a row less
  of_row : (w h t : ℕ) (p : List ℕ) (r : Row) → length p ≡ w * h → RowOf (Same p w h b) r → (t ≡ b → ⊥) → of_byte b (paint_row w t p r) + width_of r ≡ of_byte b p
  unfolding paint_row
  of_row w h t p r size Q ne =
      let o = Q.order in
      let s = Q.all r.right o (omega arith) in
      let i = in_picture w h p size r.right r.y s.0 s.1 in
      of_run p (r.y * w + r.left) (width_of r) t (omega arith)
      (λ k l. let z : r.y * w + r.left + k ≡ r.y * w + (r.left + k) = omega arith in ap (λ (j : ℕ). get_or p j 0) z ∙ (Q.all (r.left + k) (omega arith) (omega arith)).2)
      ne

-- a turn leaves less to do
pub turn_less : {T : Task} {p : List ℕ} {e : Pixel} {st : List Pixel} {R : List Row} → Underway T p (e ∷ st) R → let d = turn T.w T.h (px T.P T.w T.x T.y) T.t p (e ∷ st) in to_do (px T.P T.w T.x T.y) d.pic (length d.stack) < to_do (px T.P T.w T.x T.y) p (suc (length st))
unfolding meet to_do
turn_less {T} {p} {e} {st} {R} G =
    let f = px T.P T.w T.x T.y in
    let r = row_at T.w f p e.col e.line in
    ⊎_elim
    (λ g.
    let d = turn_met T.w T.h f T.t p e st g in
    omega (
      arith,
      ap (λ (v : Turned). length v.stack) d,
      ap (λ (v : Turned). of_byte f v.pic) d,
      of_row f T.w T.h T.t p r (G.len ∙ G.ok.size) (entry_row T G g) (λ z. G.ok.other (sym z)),
      seeded_few T.w T.h f (paint_row T.w T.t p r) r st,
    ))
    (λ g.
    let d = turn_passed T.w T.h f T.t p e st g in
    omega (arith, ap (λ (v : Turned). length v.stack) d, ap (λ (v : Turned). of_byte f v.pic) d))
    (same (px p T.w e.col e.line) f)
