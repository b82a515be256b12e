-- The parts of a grid in the order in which they are looked at, and how far those that come later can lift the score. Assumes nothing.
use Prim.Native.Nat.{ℕ, ◌+◌, ◌-◌, ◌<◌}
use native.Mathlib.Omega.{arith}
use mathlib.Core.Path.{◌≡◌, refl, sym, ap, ◌∙◌}
use mathlib.Core.List.{List, [], ◌∷◌}
use lib.IntN.{ℤ, pos}
use Rattle.refusals.specs.Finding.{Finding, found}
use Rattle.sizes.proofs.Algebra.{var, ◌⊕◌, same_terms}
use Rattle.geometry.specs.declared.Perspective.{Perspective}
use Rattle.version_db.specs.AnnexE.{version_of, count_of}
use Rattle.cell_fitness.specs.Score.{◌⊞◌}
use Rattle.cell_fitness.specs.Seen.{cell_of}
use Rattle.cell_fitness.proofs.Sums.{plus_assoc, nothing_plus}
use Rattle.fitness.specs.Expected.{Expected, timing, mark, edges, columns}
use Rattle.fitness.specs.Fitness.{score_of, fitness_of}
use Rattle.fitness.proofs.Shapes.{score_expected}
use Rattle.placed.proofs.Cells.{tame_cell, cell_most}
use Rattle.beyond.specs.Looks.{Tamed, two_marks, with_lines, with_columns}
use Rattle.beyond.specs.Most.{most_mark, most_lines, most_edges, most_columns, after_columns, after_lines, after_marks}
use Rattle.beyond.proofs.Reach.{Reach, reach_plus}
use Rattle.beyond.proofs.Within.{Within, timing_within, mark_within, edges_within, columns_within}
use Rattle.beyond.proofs.Standing.{Standing}

-- six scores can be added up in another order
reordered : (t m r b e c : Finding ℤ) {i j k l n o : ℕ} → Reach i t → Reach j m → Reach k r → Reach l b → Reach n e → Reach o c → t ⊞ m ⊞ r ⊞ b ⊞ e ⊞ c ≡ r ⊞ (b ⊞ (t ⊞ (c ⊞ (e ⊞ m))))
unfolding ◌⊞◌
reordered t m r b e c T M R B E C =
    rw (T.is, M.is, R.is, B.is, E.is, C.is)
    (ap found
    (same_terms (T.score ∷ M.score ∷ R.score ∷ B.score ∷ E.score ∷ C.score ∷ [])
    (var 0 ⊕ var 1 ⊕ var 2 ⊕ var 3 ⊕ var 4 ⊕ var 5)
    (var 2 ⊕ (var 3 ⊕ (var 0 ⊕ (var 5 ⊕ (var 4 ⊕ var 1)))))
    refl))

module _ (pic : List ℕ) (width height : ℕ) (c : Perspective) (size : ℕ) where
  -- the scores of the parts: the mark on the right
  abbrev right : Finding ℤ
  right = score_of pic width height c (mark (size - 7) 0)

  -- the mark below
  abbrev below : Finding ℤ
  below = score_of pic width height c (mark 0 (size - 7))

  -- the timing lines
  abbrev lines : Finding ℤ
  lines = score_of pic width height c (timing size)

  -- the alignment patterns that are not on the timing lines
  abbrev inner : Finding ℤ
  inner = score_of pic width height c (columns (version_of size))

  -- those on the timing lines
  abbrev outer : Finding ℤ
  outer = score_of pic width height c (edges (version_of size))

  -- the first mark
  abbrev first : Finding ℤ
  first = score_of pic width height c (mark 0 0)

  -- what is left from a part on
  abbrev from_outer : Finding ℤ
  from_outer = outer ⊞ first

  abbrev from_inner : Finding ℤ
  from_inner = inner ⊞ from_outer

  abbrev from_lines : Finding ℤ
  from_lines = lines ⊞ from_inner

  abbrev from_below : Finding ℤ
  from_below = below ⊞ from_lines

  -- all parts
  abbrev whole : Finding ℤ
  whole = fitness_of pic width height size c

  -- the number of alignment positions
  abbrev count : ℕ
  count = count_of (version_of size)

  module _ {bytes : ℕ} (trial : Tamed bytes width height size c) where
    -- a cell of the grid
    at_cell : (x y : ℕ) → x < size → y < size → Reach 9 (cell_of pic width height c x y)
    at_cell x y hx hy =
        let at = tame_cell pic width height c size trial.perspective x y hx hy trial.grid.most in
        record { score = at.0; is = at.1; small = cell_most pic width height c x y at.0 at.1 }

    -- a list of its cells
    reach : {n : ℕ} {es : List Expected} → Within (cell_of pic width height c) n es → Reach n (score_of pic width height c es)
    unfolding score_of
    reach p = p.reach

    -- each part
    of_right : Reach most_mark right
    of_right = reach (mark_within _ size trial.grid at_cell (size - 7) 0 (omega arith) (omega arith))

    of_below : Reach most_mark below
    of_below = reach (mark_within _ size trial.grid at_cell 0 (size - 7) (omega arith) (omega arith))

    of_lines : Reach (most_lines size) lines
    of_lines = reach (timing_within _ size trial.grid at_cell)

    of_inner : Reach (most_columns count) inner
    of_inner = reach (columns_within _ size trial.grid at_cell (version_of size) refl)

    of_outer : Reach (most_edges count) outer
    of_outer = reach (edges_within _ size trial.grid at_cell (version_of size) refl)

    of_first : Reach most_mark first
    of_first = reach (mark_within _ size trial.grid at_cell 0 0 (omega arith) (omega arith))

    -- what is left from a part on
    left_outer : Reach (after_columns count) from_outer
    unfolding after_columns
    left_outer = reach_plus of_outer of_first

    left_inner : Reach (after_lines count) from_inner
    unfolding after_lines
    left_inner = reach_plus of_inner left_outer

    left_lines : Reach (after_marks size count) from_lines
    unfolding after_marks
    left_lines = reach_plus of_lines left_inner

    left_below : Reach (most_mark + after_marks size count) from_below
    left_below = reach_plus of_below left_lines

    -- the whole, in the order in which its parts are looked at
    in_order : whole ≡ right ⊞ from_below
    in_order = score_expected pic width height c size ∙ reordered lines first right below outer inner of_lines of_first of_right of_below of_outer of_inner

    -- how it stands before the first part, and after each
    pub at_start : Standing whole (found (pos 0)) (most_mark + (most_mark + after_marks size count))
    at_start = record { left = right ⊞ from_below; is = in_order ∙ sym (nothing_plus _); few = reach_plus of_right left_below }

    pub after_right : Standing whole right (most_mark + after_marks size count)
    after_right = record { left = from_below; is = in_order; few = left_below }

    pub after_marks_lem : Standing whole (two_marks pic width height c size) (after_marks size count)
    after_marks_lem = record { left = from_lines; is = simp plus_assoc in_order; few = left_lines }

    pub after_lines_lem : Standing whole (with_lines pic width height c size) (after_lines count)
    after_lines_lem = record { left = from_inner; is = simp plus_assoc in_order; few = left_inner }

    pub after_columns_lem : Standing whole (with_columns pic width height c size) (after_columns count)
    after_columns_lem = record { left = from_outer; is = simp plus_assoc in_order; few = left_outer }

    -- nothing is left
    pub all_seen : whole ≡ with_columns pic width height c size ⊞ outer ⊞ first
    all_seen = simp plus_assoc in_order
