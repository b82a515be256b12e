-- What each finder finds in a piece: a pixel of it, and none lies farther. Assumes nothing.
use Prim.Native.Nat.{ℕ}
use native.Mathlib.Omega.{arith}
use mathlib.Core.Path.{◌≡◌, refl, sym, subst}
use mathlib.Core.List.{List, [], ◌∷◌}
use mathlib.Core.Logic.{inl, inr, ⊎_elim}
use lib.IntN.{ℤ}
use lib.Signed.{◌≤ℤ◌}
use Rattle.points.specs.Range.{Within}
use Rattle.points.specs.declared.Point.{Point}
use Rattle.pieces.specs.Count.{Mem}
use Rattle.pieces.specs.Chain.{start}
use Rattle.pieces.specs.Piece.{Piece}
use Rattle.pieces.specs.Row.{RowOf, InRow}
use Rattle.pieces.specs.declared.Row.{Row}
use Rattle.pieces.proofs.Counting.{mem_either, mem_after}
use Rattle.pieces.proofs.Chains.{last_of}
use Rattle.fill.specs.Order.{State, rows_met}
use Rattle.fill.specs.Fold.{folded}
use Rattle.fill.proofs.Underway.{Valid, Underway, covering}
use Rattle.fill.proofs.Whole.{piece_covered}
use Rattle.fill.proofs.Filling.{task_of, filled_is, underway_end}
use Rattle.fill.proofs.Laws.{rows_met_lem}
use Rattle.corners.specs.Rows.{Sides, point_at, left_end, right_end, by_ends, ends}
use Rattle.corners.specs.Scores.{distance_of, left_of, line_from}
use Rattle.corners.specs.First.{First, Highest, FourWays}
use Rattle.corners.specs.Finders.{first_corner_from, first_corner_sees, all_corners_from, all_corners_see, left_most_from, left_most_sees}
use Rattle.corners.proofs.Small.{point_within}
use Rattle.corners.proofs.Peaks.{Peaked, distance_peaked, along_peaked, across_peaked, behind_peaked, left_peaked}
use Rattle.corners.proofs.Ends.{no-pixel-higher}
use Rattle.corners.proofs.Found.{first_corner_found, all_corners_found, left_most_found}

-- v is a pixel of the set S
abbrev PixelOf : (ℕ → ℕ → Type 0) → Point → Type 0
PixelOf S v = (a : ℕ) × (b : ℕ) × (v ≡ point_at a b) × S a b

-- an end of one of the rows of S is a pixel of S
end_of : {S : ℕ → ℕ → Type 0} (rows : List Row) → ((r : Row) → Mem r rows → RowOf S r) → (v : Point) → Mem v (ends rows) → PixelOf S v
unfolding ends
end_of [] of v m = absurd m
end_of (r ∷ rows) of v m =
    let R = of r (inl refl) in
    ⊎_elim
    (λ k. end_of rows (λ s n. of s (inr n)) v k)
    (λ k.
    ⊎_elim
    (λ e. (r.left, r.y, e, R.all r.left (omega arith) R.order))
    (λ n. ⊎_elim (λ e. (r.right, r.y, e, R.all r.right R.order (omega arith))) (λ z. absurd z) n)
    k)
    (mem_either (ends rows) (left_end r ∷ right_end r ∷ []) v m)

module _ {p : List ℕ} {w h x y t : ℕ} (ok : Valid (task_of p w h x y t)) where
  abbrev rows : List Row
  rows = rows_met p w h x y t

  -- each pixel of the piece lies in a row that is met
  row_of : (a b : ℕ) → Piece p w h x y a b → (r : Row) × Mem r rows × InRow r a b
  row_of a b P =
      let T = task_of p w h x y t in
      let U = subst (λ (s : State). Underway T s.pic [] s.rows) (sym (filled_is T ok)) (underway_end T ok) in
      covering rows a b (piece_covered U P)

  highest-of :
      {score : Point → ℤ} → Peaked score → {points : List Point} {q : Point} → First points score q → ((v : Point) → Mem v (ends rows) → Mem v points)
      → ((v : Point) → Mem v points → PixelOf (Piece p w h x y) v) → Highest (Piece p w h x y) score q
  highest-of {score} peaked {q} F among of =
      let here = of q (subst (Mem q) (sym F.are) (mem_after F.before (q ∷ F.after) q (inl refl))) in
      record {
        column = here.0;
        line = here.1;
        is = here.2;
        inside = here.3;
        no_higher = λ a b P.
            let s = row_of a b P in
            subst (λ (n : ℕ). score (point_at a n) ≤ℤ score q) s.2.0 (no-pixel-higher peaked F rows among s.0 s.1 a s.2.1 s.2.2);
      }

  -- the first corner
  pub first_corner_farthest : (initial : Point) → Highest (Piece p w h x y) (distance_of initial) (folded (by_ends first_corner_sees) (first_corner_from initial) rows).best.place
  first_corner_farthest initial =
      let seen = row_of x y (start (ok.in_x, ok.in_y, refl)) in
      highest-of (distance_peaked initial) (go seen.0 rows seen.1) (λ v m. m) (end_of rows (rows_met_lem ok).1)
    where
      go : (r : Row) (R : List Row) → Mem r R → First (ends R) (distance_of initial) (folded (by_ends first_corner_sees) (first_corner_from initial) R).best.place
      go r [] m = absurd m
      go r (s ∷ R) m = first_corner_found initial s R

  -- the seed, and the ends of the rows
  seed_or_end : (v : Point) → Mem v (point_at x y ∷ ends rows) → PixelOf (Piece p w h x y) v
  seed_or_end v m = ⊎_elim (λ e. (x, y, e, start (ok.in_x, ok.in_y, refl))) (λ n. end_of rows (rows_met_lem ok).1 v n) m

  -- the four corners, as looked for from the seed
  pub all_corners_farthest : (corner : Point) → FourWays (Highest (Piece p w h x y)) (line_from (point_at x y) corner) (folded (by_ends all_corners_see) (all_corners_from (point_at x y) corner) rows)
  all_corners_farthest corner =
      let line = line_from (point_at x y) corner in
      let F = all_corners_found (point_at x y) corner rows in
      record {
        ahead = highest-of (along_peaked line) F.ahead (λ v m. inr m) seed_or_end;
        right = highest-of (across_peaked line) F.right (λ v m. inr m) seed_or_end;
        behind = highest-of (behind_peaked line) F.behind (λ v m. inr m) seed_or_end;
        left = highest-of (left_peaked line) F.left (λ v m. inr m) seed_or_end;
      }

  -- the leftmost pixel, as looked for from the seed
  pub left_most_farthest : (line : Point) → Highest (Piece p w h x y) (left_of line) (folded (by_ends left_most_sees) (left_most_from line (point_at x y)) rows).best.place
  left_most_farthest line = highest-of (left_peaked line) (left_most_found line (point_at x y) rows) (λ v m. inr m) seed_or_end

-- what is found in a picture's piece is a point of the picture
pub highest_within : (p : List ℕ) {w h x y : ℕ} {score : Point → ℤ} {q : Point} → Sides w h → Highest (Piece p w h x y) score q → Within q
highest_within p S H =
    let k = last_of H.inside in
    rw H.is (point_within (omega (arith, k.0)) (omega (arith, k.1)))
