-- A fill whose stack is empty has painted its piece, all of it and nothing else, and has met its rows, each once. Assumes nothing.
use Prim.Native.Nat.{ℕ, zero, suc, ◌+◌, ◌-◌, ◌<◌, ◌≤◌, max}
use native.Mathlib.Omega.{arith}
use mathlib.Core.Path.{◌≡◌, refl, sym, ap, ◌∙◌, subst}
use mathlib.Core.List.{List, [], ◌∷◌, map}
use mathlib.Core.Logic.{◌⊎◌, inl, inr, ⊎_elim}
use lib.ListN.{length}
use Rattle.pieces.specs.Picture.{Pixel, pixel}
use Rattle.pieces.specs.Count.{Mem, Distinct, Lists, Number}
use Rattle.pieces.specs.Chain.{start, west, east, north, south}
use Rattle.pieces.specs.Piece.{Pixels}
use Rattle.pieces.specs.Row.{RowOf, InRow}
use Rattle.pieces.specs.Pairs.{RowPair, Overlap}
use Rattle.pieces.specs.Paint.{Paints}
use Rattle.pieces.specs.declared.Row.{Row}
use Rattle.pieces.proofs.Numbers.{split, same}
use Rattle.pieces.proofs.Counting.{mem_map, map_mem, map_length, map_distinct}
use Rattle.pieces.proofs.Chains.{last_of, go_left}
use Rattle.pieces.proofs.Rows.{one_row, row_of_set, row_of_chain}
use Rattle.fill.specs.Order.{width_of, row_at}
use Rattle.fill.specs.Fold.{folded, width_more}
use Rattle.fill.proofs.RowAt.{row_at_lem, row_at_holds}
use Rattle.fill.proofs.Underway.{Task, f, at, PieceOf, Covered, Underway, covering, covered_piece, covered_along, covered}
use Rattle.fill.proofs.Joints.{Joint, Joints}

-- the pixels of rows, and how many they are
onto : ℕ → ℕ → ℕ → List Pixel → List Pixel
onto l zero y acc = acc
onto l (suc n) y acc = pixel (l + n) y ∷ onto l n y acc

pixels_in : List Row → List Pixel
pixels_in [] = []
pixels_in (r ∷ R) = onto r.left (width_of r) r.y (pixels_in R)

onto_length : (l n y : ℕ) (acc : List Pixel) → length (onto l n y acc) ≡ length acc + n
unfolding onto
onto_length l zero y acc = omega arith
onto_length l (suc n) y acc = omega (arith, onto_length l n y acc)

pixels_length : (R : List Row) → length (pixels_in R) ≡ folded width_more 0 R
unfolding pixels_in folded
pixels_length [] = refl
pixels_length (r ∷ R) = onto_length r.left (width_of r) r.y (pixels_in R) ∙ ap (λ (k : ℕ). k + width_of r) (pixels_length R)

onto_keep : (l n y : ℕ) (acc : List Pixel) (a : Pixel) → Mem a acc → Mem a (onto l n y acc)
unfolding onto
onto_keep l zero y acc a m = m
onto_keep l (suc n) y acc a m = inr (onto_keep l n y acc a m)

onto_have : (l n y : ℕ) (acc : List Pixel) (c : ℕ) → l ≤ c → c < l + n → Mem (pixel c y) (onto l n y acc)
unfolding onto
onto_have l zero y acc c u v = absurd (omega arith)
onto_have l (suc n) y acc c u v = ⊎_elim (λ e. inl (λ i. pixel (e i) y)) (λ e. inr (onto_have l n y acc c u (omega arith))) (same c (l + n))

onto_from : (l n y : ℕ) (acc : List Pixel) (a : Pixel) → Mem a (onto l n y acc) → Mem a acc ⊎ ((a.line ≡ y) × (l ≤ a.col) × (a.col < l + n))
unfolding onto
onto_from l zero y acc a m = inl m
onto_from l (suc n) y acc a m =
    ⊎_elim
    (λ e. let z = ap (λ (d : Pixel). d.col) e in inr (ap (λ (d : Pixel). d.line) e, omega arith, omega arith))
    (λ q. ⊎_elim (λ i. inl i) (λ i. inr (i.0, i.1, omega (arith, i.2))) (onto_from l n y acc a q))
    m

onto_distinct : (l n y : ℕ) (acc : List Pixel) → Distinct acc → ((c : ℕ) → l ≤ c → c < l + n → Mem (pixel c y) acc → ⊥) → Distinct (onto l n y acc)
unfolding onto
onto_distinct l zero y acc d g = d
onto_distinct l (suc n) y acc d g = (
  (λ m. ⊎_elim (λ q. g (l + n) (omega arith) (omega arith) q) (λ q. omega (arith, q.2)) (onto_from l n y acc (pixel (l + n) y) m)),
  onto_distinct l n y acc d (λ c u v. g c u (omega arith)),
)

module _ {S : ℕ → ℕ → Type 0} where
  pixels_covered : (R : List Row) → ((r : Row) → Mem r R → RowOf S r) → (a : Pixel) → Mem a (pixels_in R) → Covered R a.col a.line
  unfolding pixels_in
  pixels_covered [] of a m = m
  pixels_covered (r ∷ R) of a m =
      let o = (of r (inl refl)).order in
      ⊎_elim
      (λ q. inr (pixels_covered R (λ s i. of s (inr i)) a q))
      (λ q. inl (sym q.0, q.1, omega (arith, q.2)))
      (onto_from r.left (width_of r) r.y (pixels_in R) a m)

  pixels_distinct : (R : List Row) → ((r : Row) → Mem r R → RowOf S r) → Distinct R → Distinct (pixels_in R)
  unfolding pixels_in
  pixels_distinct [] of d = tt
  pixels_distinct (r ∷ R) of d =
      let o = of r (inl refl) in
      let k = o.order in
      onto_distinct r.left (width_of r) r.y (pixels_in R) (pixels_distinct R (λ s i. of s (inr i)) d.1)
      (λ c u v m.
      let q = covering R c r.y (pixels_covered R (λ s i. of s (inr i)) (pixel c r.y) m) in
      let e : r ≡ q.0 = one_row o (of q.0 (inr q.1)) c r.y (refl, u, omega arith) q.2 in
      d.0 (subst (λ (s : Row). Mem s R) (sym e) q.1))

covered_pixels : (R : List Row) (c b : ℕ) → Covered R c b → Mem (pixel c b) (pixels_in R)
unfolding pixels_in
covered_pixels [] c b q = q
covered_pixels (r ∷ R) c b q =
    ⊎_elim
    (λ h. subst (λ (k : ℕ). Mem (pixel c k) (onto r.left (width_of r) r.y (pixels_in R))) h.0 (onto_have r.left (width_of r) r.y (pixels_in R) c h.1 (omega (arith, h.1, h.2))))
    (λ h. onto_keep r.left (width_of r) r.y (pixels_in R) (pixel c b) (covered_pixels R c b h))
    q

module _ {T : Task} {p : List ℕ} {R : List Row} (G : Underway T p [] R) where
  -- the rows met cover the piece
  pub piece_covered : {a b : ℕ} → PieceOf T a b → Covered R a b
  piece_covered (start s) = covered G T.x T.y s.0 s.1 refl (λ z. (G.seed z).1)
  piece_covered (west {a} {b} c s) =
      covered_along T R G.rows_of (suc a) a b (piece_covered c) s.0
      (λ k u v. absurd (omega arith))
      (λ k u v. ⊎_elim (λ z. ap (λ (j : ℕ). at T j b) z ∙ s.2) (λ z. ap (λ (j : ℕ). at T j b) (omega arith) ∙ (last_of c).2) (same k a))
  piece_covered (east {a} {b} c s) =
      covered_along T R G.rows_of a (suc a) b (piece_covered c) s.0
      (λ k u v. ⊎_elim (λ z. ap (λ (j : ℕ). at T j b) z ∙ s.2) (λ z. ap (λ (j : ℕ). at T j b) (omega arith) ∙ (last_of c).2) (same k (suc a)))
      (λ k u v. absurd (omega arith))
  piece_covered (north {a} {b} c s) =
      let q = last_of c in
      covered G a b s.0 s.1 s.2 (λ z. (G.up a b q.1 (piece_covered c) s.2 z).1)
  piece_covered (south {a} {b} c s) = covered G a (suc b) s.0 s.1 s.2 (λ z. (G.down a b s.1 (piece_covered c) s.2 z).1)

  -- the piece is painted, and nothing else
  pub whole_paints : Paints T.P T.w T.h T.x T.y T.t p
  whole_paints =
      record {
        len = G.len;
        piece = λ a b c. let i = last_of c in G.done a b i.0 i.1 (piece_covered c);
        rest = λ a b ha hb n. G.kept a b ha hb (λ q. n (covered_piece T R G.rows_of a b q));
      }

  -- the rows met are the piece's rows, each once
  pub whole_rows : Lists (RowOf (PieceOf T)) R
  whole_rows = (
    G.once,
    G.rows_of,
    (λ r Q.
        let s = covering R r.left r.y (piece_covered (Q.all r.left (omega arith) Q.order)) in
        let e : r ≡ s.0 = one_row Q (G.rows_of s.0 s.1) r.left r.y (refl, omega arith, Q.order) s.2 in
        subst (λ (v : Row). Mem v R) (sym e) s.1),
  )

  -- their pixels are the piece's, counted once
  pub whole_pixels : Pixels (PieceOf T) (folded width_more 0 R)
  whole_pixels =
      record {
        list = pixels_in R;
        lists = (
          pixels_distinct R G.rows_of G.once,
          (λ a m. covered_piece T R G.rows_of a.col a.line (pixels_covered R G.rows_of a m)),
          (λ a c. covered_pixels R a.col a.line (piece_covered c)),
        );
        count = pixels_length R;
      }

-- the row of the piece at a pixel of it
module _ (T : Task) where
  abbrev here : ℕ → ℕ → Row
  here c b = row_at T.w (f T) T.P c b

  here_holds : (c b : ℕ) → InRow (here c b) c b
  here_holds c b = row_at_holds T.P T.w (f T) b c

  here_row : (c b : ℕ) → PieceOf T c b → RowOf (PieceOf T) (here c b)
  here_row c b k =
      let i = last_of k in
      let Q = row_at_lem T.P T.w (f T) b T.h c i.0 i.1 i.2 in
      let h = here_holds c b in
      row_of_chain Q (go_left c (here c b).left (here c b).y h.1 (subst (λ (v : ℕ). PieceOf T c v) (sym h.0) k) (λ j u v. Q.all j u (omega (arith, h.2))))

  pair_at : Pixel → RowPair
  pair_at j = record { upper = here j.col j.line; lower = here j.col (suc j.line) }

-- joints and pairs of overlapping rows answer to one another
module _ {T : Task} {p : List ℕ} {R : List Row} (G : Underway T p [] R) {E : List Pixel} (J : Joints T R E) where
  top_piece : (j : Pixel) → Mem j E → PieceOf T j.col j.line
  top_piece j m =
      let s = J.sound j m in
      ⊎_elim
      (λ q. covered_piece T R G.rows_of j.col j.line q)
      (λ q. north (covered_piece T R G.rows_of j.col (suc j.line) q) (s.0.wide, omega (arith, s.0.deep), s.0.top))
      s.1

  low_piece : (j : Pixel) → Mem j E → PieceOf T j.col (suc j.line)
  low_piece j m = let s = J.sound j m in south (top_piece j m) (s.0.wide, s.0.deep, s.0.bottom)

  pair_overlaps : (j : Pixel) → Mem j E → Overlap (PieceOf T) (pair_at T j)
  unfolding pair_at
  pair_overlaps j m =
      let u = here_holds T j.col j.line in
      let d = here_holds T j.col (suc j.line) in
      record {
        above = here_row T j.col j.line (top_piece j m);
        below = here_row T j.col (suc j.line) (low_piece j m);
        next = d.0 ∙ ap suc (sym u.0);
        column = j.col;
        in_upper = (refl, u.1, u.2);
        in_lower = (refl, d.1, d.2);
      }

  -- the joint of two overlapping rows, at the greater of their left ends
  joint_in : (q : RowPair) → Overlap (PieceOf T) q → Joint T (max q.upper.left q.lower.left) q.upper.y
  joint_in q O =
      let c = max q.upper.left q.lower.left in
      let i = O.in_upper in
      let j = O.in_lower in
      let U = row_of_set O.above in
      let D = row_of_set O.below in
      let s = U.all c (omega arith) (omega (arith, i.1, i.2, j.1)) in
      let t = D.all c (omega arith) (omega (arith, i.1, j.1, j.2)) in
      let line : (k : ℕ) → at T k (suc q.upper.y) ≡ at T k q.lower.y = λ k. ap (λ (v : ℕ). at T k v) (sym O.next) in
      record {
        wide = s.0;
        deep = omega (arith, t.1, O.next);
        top = s.2;
        bottom = line c ∙ t.2;
        first = λ k e g₁ g₂.
            ⊎_elim
            (λ l. D.before k (omega arith) (omega (arith, s.0), t.1, sym (line k) ∙ g₂))
            (λ l. U.before k (omega arith) (omega (arith, s.0), s.1, g₁))
            (split q.upper.left q.lower.left);
      }

  -- a joint is at that column of its pair
  joint_column : (j : Pixel) → Mem j E → j.col ≡ max (pair_at T j).upper.left (pair_at T j).lower.left
  unfolding pair_at
  joint_column j m =
      let u = here_holds T j.col j.line in
      let d = here_holds T j.col (suc j.line) in
      let O = pair_overlaps j m in
      let U = row_of_set O.above in
      let D = row_of_set O.below in
      let s = (J.sound j m).0 in
      ⊎_elim
      (λ g. omega (arith, u.1, d.1))
      (λ g.
      absurd (s.first (j.col - 1) (omega arith)
      (ap (λ (v : ℕ). at T (j.col - 1) v) (sym u.0) ∙ (U.all (j.col - 1) (omega arith) (omega (arith, u.2))).2)
      (ap (λ (v : ℕ). at T (j.col - 1) v) (sym d.0) ∙ (D.all (j.col - 1) (omega arith) (omega (arith, d.2))).2)))
      (split j.col (max (here T j.col j.line).left (here T j.col (suc j.line)).left))

  pair_inj : (a c : Pixel) → Mem a E → Mem c E → pair_at T a ≡ pair_at T c → a ≡ c
  unfolding pair_at
  pair_inj a c u v e =
      let line : a.line ≡ c.line = sym (here_holds T a.col a.line).0 ∙ ap (λ (q : RowPair). q.upper.y) e ∙ (here_holds T c.col c.line).0 in
      let col : a.col ≡ c.col = joint_column a u ∙ ap (λ (q : RowPair). max q.upper.left q.lower.left) e ∙ sym (joint_column c v) in
      λ i. record { col = col i; line = line i }

  pair_listed : (q : RowPair) → Overlap (PieceOf T) q → Mem q (map (pair_at T) E)
  unfolding pair_at
  pair_listed q O =
      let c = max q.upper.left q.lower.left in
      let b = q.upper.y in
      let i = O.in_upper in
      let j = O.in_lower in
      let on-top : InRow q.upper c b = (refl, omega arith, omega (arith, i.1, i.2, j.1)) in
      let on-low : InRow q.lower c (suc b) = (O.next, omega arith, omega (arith, i.1, j.1, j.2)) in
      let top : PieceOf T c b = O.above.all c on-top.1 on-top.2 in
      let low : PieceOf T c (suc b) = subst (λ (v : ℕ). PieceOf T c v) O.next (O.below.all c on-low.1 on-low.2) in
      let m = J.whole c b (joint_in q O) (inl (piece_covered G top)) in
      let eu = one_row O.above (here_row T c b top) c b on-top (here_holds T c b) in
      let ed = one_row O.below (here_row T c (suc b) low) c (suc b) on-low (here_holds T c (suc b)) in
      subst (λ (v : RowPair). Mem v (map (pair_at T) E)) (λ k. record { upper = sym eu k; lower = sym ed k }) (mem_map (pair_at T) E (pixel c b) m)

  -- there are as many pairs of overlapping rows as joints
  pub whole_pairs : Number (Overlap (PieceOf T)) (length E)
  whole_pairs =
      record {
        list = map (pair_at T) E;
        lists = (
          map_distinct (pair_at T) E J.once pair_inj,
          (λ q m. let r = map_mem (pair_at T) E q m in subst (Overlap (PieceOf T)) (sym r.2) (pair_overlaps r.0 r.1)),
          pair_listed,
        );
        count = map_length (pair_at T) E;
      }
