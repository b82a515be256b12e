-- Rows that are met one after the other: the finders see their ends, in that order, and no pixel of a row lies farther than what they find. Assumes nothing.
use Prim.Native.Nat.{ℕ, ◌≤◌}
use mathlib.Core.Path.{◌≡◌, refl, sym, ap, ◌∙◌}
use mathlib.Core.List.{List, [], ◌∷◌, ◌++◌}
use mathlib.Core.Logic.{inl, inr, ⊎_elim}
use lib.IntN.{ℤ}
use lib.Signed.{◌≤ℤ◌}
use Rattle.points.specs.declared.Point.{Point}
use Rattle.pieces.specs.declared.Row.{Row}
use Rattle.pieces.specs.Count.{Mem}
use Rattle.pieces.proofs.Counting.{mem_before, mem_after}
use Rattle.fill.specs.Fold.{folded}
use Rattle.corners.specs.Rows.{point_at, left_end, right_end, by_ends, seen_in, ends}
use Rattle.corners.specs.First.{First}
use Rattle.corners.proofs.Order.{≤ℤ-trans}
use Rattle.corners.proofs.Extremes.{first_highest}
use Rattle.corners.proofs.Peaks.{Peaked}

module _ {A : Type 0} (see : A → Point → A) where
  seen_parts : (a : A) (ps qs : List Point) → seen_in see a (ps ++ qs) ≡ seen_in see (seen_in see a ps) qs
  unfolding seen_in
  seen_parts a [] qs = refl
  seen_parts a (p ∷ ps) qs = seen_parts (see a p) ps qs

  -- the fold over rows sees their ends
  pub rows_seen : (a : A) (rows : List Row) → folded (by_ends see) a rows ≡ seen_in see a (ends rows)
  unfolding folded seen_in ends by_ends
  rows_seen a [] = refl
  rows_seen a (row ∷ rows) =
      ap (λ (b : A). see (see b (left_end row)) (right_end row)) (rows_seen a rows) ∙ sym (seen_parts a (ends rows) (left_end row ∷ right_end row ∷ []))

-- both ends of a row are among the ends of rows
mem_ends : (rows : List Row) (row : Row) → Mem row rows → Mem (left_end row) (ends rows) × Mem (right_end row) (ends rows)
unfolding ends
mem_ends [] row i = absurd i
mem_ends (r ∷ rows) row i =
    ⊎_elim
    (λ e.
    (mem_after (ends rows) (left_end r ∷ right_end r ∷ []) (left_end row) (inl (ap left_end e)), mem_after (ends rows) (left_end r ∷ right_end r ∷ []) (right_end row) (inr (inl (ap right_end e)))))
    (λ n.
    let m = mem_ends rows row n in
    (mem_before (ends rows) (left_end r ∷ right_end r ∷ []) (left_end row) m.0, mem_before (ends rows) (left_end r ∷ right_end r ∷ []) (right_end row) m.1))
    i

-- no pixel of the rows scores more than the first of the highest of the points, where all their ends are among those
pub no-pixel-higher :
    {score : Point → ℤ} → Peaked score → {points : List Point} {p : Point} → First points score p → (rows : List Row) → ((q : Point) → Mem q (ends rows) → Mem q points)
    → (row : Row) → Mem row rows → (a : ℕ) → row.left ≤ a → a ≤ row.right → score (point_at a row.y) ≤ℤ score p
no-pixel-higher peaked F rows among row m a h k =
    let e = mem_ends rows row m in
    ⊎_elim
    (λ l. ≤ℤ-trans l (first_highest F (left_end row) (among (left_end row) e.0)))
    (λ l. ≤ℤ-trans l (first_highest F (right_end row) (among (right_end row) e.1)))
    (peaked.between row.left a row.right row.y h k)
