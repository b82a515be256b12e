-- A turn keeps what holds in the middle of a fill. Assumes nothing.
use Prim.Native.Nat.{ℕ, zero, suc, ◌*◌, ◌<◌, ◌≤◌}
use native.Mathlib.Omega.{arith}
use mathlib.Core.Path.{◌≡◌, refl, sym, ap, ◌∙◌, subst}
use mathlib.Core.List.{List, [], ◌∷◌, ◌++◌}
use mathlib.Core.Logic.{inl, inr, ⊎_elim}
use lib.ListN.{length}
use borrow.Author.Tests.{eq-eqb, ne_eqb}
use Rattle.pieces.specs.Picture.{px, Pixel, pixel}
use Rattle.pieces.specs.Count.{Mem, Distinct}
use Rattle.pieces.specs.Chain.{north, south}
use Rattle.pieces.specs.Piece.{Same}
use Rattle.pieces.specs.Row.{RowOf, InRow}
use Rattle.pieces.specs.declared.Row.{Row}
use Rattle.pieces.proofs.Numbers.{same}
use Rattle.pieces.proofs.Chains.{last_of, go_left}
use Rattle.pieces.proofs.Rows.{row_of_chain}
use Rattle.fill.specs.Order.{width_of, row_at, paint_row, seeded, Turned, turned, meet, turn, State, turns, begun}
use Rattle.fill.proofs.Painted.{row_painted, row_other, row_length}
use Rattle.fill.proofs.RowAt.{row_at_lem, row_at_holds}
use Rattle.fill.proofs.Scan.{Seed, first_of}
use Rattle.fill.proofs.Lines.{above_keep, below_keep, above_have, below_have, above_from, below_from}
use Rattle.fill.proofs.Underway.{Task, Valid, f, at, SameOf, PieceOf, Covered, Waits, Underway, underway_begun, in_row?, covers, covered_in, waits_less, uncovered, covered, row_origin}

-- the entry's pixel is painted by now
pub underway_passed : {T : Task} {p : List ℕ} {e : Pixel} {st : List Pixel} {R : List Row} → Underway T p (e ∷ st) R → (px p T.w e.col e.line ≡ f T → ⊥) → Underway T p st R
underway_passed {T} {p} {e} {st} {R} G n =
    let s = last_of (G.stack_of e (inl refl)) in
    let q : Covered R e.col e.line = covered G e.col e.line s.0 s.1 s.2 n in
    let less = waits_less T R G.rows_of e st in
    record {
      ok = G.ok;
      len = G.len;
      rows_of = G.rows_of;
      once = G.once;
      done = G.done;
      kept = G.kept;
      stack_of = λ d m. G.stack_of d (inr m);
      seed = λ z. less T.x T.y q (uncovered G T.x T.y G.ok.in_x G.ok.in_y z) G.ok.in_x (G.seed z);
      up = λ a b hb c g z.
          let ha : a < T.w = (covered_in T R G.rows_of a (suc b) c).0 in
          less a b q (uncovered G a b ha (omega arith) z) ha (G.up a b hb c g z);
      down = λ a b hb c g z.
          let ha : a < T.w = (covered_in T R G.rows_of a b c).0 in
          less a (suc b) q (uncovered G a (suc b) ha hb z) ha (G.down a b hb c g z);
    }

-- the picture once the row r is painted, and the stack once its entries are pushed
abbrev pub painted : Task → List ℕ → Row → List ℕ
painted T p r = paint_row T.w T.t p r

abbrev pub pushed : Task → List ℕ → Row → List Pixel → List Pixel
pushed T p r st = seeded T.w T.h (f T) (painted T p r) r st

-- the row r of the entry's pixel is met
module _ {T : Task} {p : List ℕ} {e : Pixel} {st : List Pixel} {R : List Row} (G : Underway T p (e ∷ st) R) {r : Row} (Q : RowOf (Same p T.w T.h (f T)) r) (hit : InRow r e.col e.line) where
  pub deep : r.y < T.h
  deep = (Q.all r.left (omega arith) Q.order).1

  pub wide : r.right < T.w
  wide = (Q.all r.right Q.order (omega arith)).0

  pub own : RowOf (SameOf T) r
  own = row_origin G Q

  -- it is a row of the piece
  pub new_row : RowOf (PieceOf T) r
  new_row =
      row_of_chain own (go_left e.col r.left r.y hit.1 (subst (λ (k : ℕ). PieceOf T e.col k) (sym hit.0) (G.stack_of e (inl refl)))
      (λ k u v. own.all k u (omega (arith, hit.2))))

  size : length p ≡ T.w * T.h
  size = G.len ∙ G.ok.size

  in_new : (a b : ℕ) → InRow r a b → px (painted T p r) T.w a b ≡ T.t
  in_new a b q = row_painted T.w T.h T.t p r size Q.order wide deep a b q

  off_new : (a b : ℕ) → a < T.w → (InRow r a b → ⊥) → px (painted T p r) T.w a b ≡ px p T.w a b
  off_new a b ha n = row_other T.w T.h T.t p r size Q.order wide deep a b ha n

  -- what is of the seed's byte after was so before
  was : (a b : ℕ) → a < T.w → px (painted T p r) T.w a b ≡ f T → px p T.w a b ≡ f T
  was a b ha z = ⊎_elim (λ q. absurd (G.ok.other (sym z ∙ in_new a b q))) (λ n. sym (off_new a b ha n) ∙ z) (in_row? r a b)

  pub rows_of' : (s : Row) → Mem s (r ∷ R) → RowOf (PieceOf T) s
  rows_of' s m = ⊎_elim (λ z. subst (RowOf (PieceOf T)) (sym z) new_row) (λ q. G.rows_of s q) m

  done' : (a b : ℕ) → a < T.w → b < T.h → Covered (r ∷ R) a b → px (painted T p r) T.w a b ≡ T.t
  done' a b ha hb q =
      ⊎_elim
      (λ g. in_new a b g)
      (λ n. ⊎_elim (λ g. absurd (n g)) (λ g. off_new a b ha n ∙ G.done a b ha hb g) q)
      (in_row? r a b)

  pub kept' : (a b : ℕ) → a < T.w → b < T.h → (Covered (r ∷ R) a b → ⊥) → px (painted T p r) T.w a b ≡ at T a b
  kept' a b ha hb n = off_new a b ha (λ q. n (inl q)) ∙ G.kept a b ha hb (λ q. n (inr q))

  -- it was not met before
  once' : Distinct (r ∷ R)
  once' = (
    (λ m.
        let s = Q.all e.col hit.1 hit.2 in
        uncovered G e.col r.y s.0 s.1 s.2 (covers R r e.col r.y m (refl, hit.1, hit.2))),
    G.once,
  )

  pub uncovered' : (a b : ℕ) → a < T.w → b < T.h → px (painted T p r) T.w a b ≡ f T → Covered (r ∷ R) a b → ⊥
  uncovered' a b ha hb z q = G.ok.other (sym z ∙ done' a b ha hb q)

  pub origin' : (a b : ℕ) → a < T.w → b < T.h → px (painted T p r) T.w a b ≡ f T → at T a b ≡ f T
  origin' a b ha hb z = sym (kept' a b ha hb (uncovered' a b ha hb z)) ∙ z

  keep : (d : Pixel) → Mem d st → Mem d (pushed T p r st)
  unfolding seeded
  keep d m =
      below_keep T.w T.h (f T) (painted T p r) r.left (width_of r) pixel r.y _ d
      (above_keep T.w (f T) (painted T p r) r.left (width_of r) pixel r.y st d m)

  -- a pixel beside the row that is still of the seed's byte has an entry
  scanned : (a b : ℕ) → InRow r a r.y → px (painted T p r) T.w a b ≡ f T → (c : ℕ) × (c ≤ a) × Seed (painted T p r) T.w (f T) b r.left r.left (width_of r) c × ((k : ℕ) → c ≤ k → k ≤ a → px (painted T p r) T.w k b ≡ f T)
  scanned a b q z =
      let i = first_of (painted T p r) T.w (f T) b r.left a q.1 z in
      (i.0, i.2, record { low = i.1; high = omega (arith, i.2, q.2); here = i.3 i.0 (omega arith) i.2; first = i.4 }, i.3)

  waits_at : (a b c : ℕ) → a < T.w → b < T.h → c ≤ a → Mem (pixel c b) (pushed T p r st) → ((k : ℕ) → c ≤ k → k ≤ a → px (painted T p r) T.w k b ≡ f T) → Waits T (pushed T p r st) a b
  waits_at a b c ha hb le m g = (
    pixel c b,
    m,
    refl,
    (λ k u v. origin' k b (omega arith) hb (g k u v)),
    (λ k u v. origin' k b (omega arith) hb (g k (omega arith) (omega arith))),
  )

  waits_up : (a b : ℕ) → InRow r a (suc b) → px (painted T p r) T.w a b ≡ f T → Waits T (pushed T p r st) a b
  unfolding seeded
  waits_up a b q z =
      let i = scanned a b (refl, q.1, q.2) z in
      let m = above_have T.w (f T) (painted T p r) r.left (width_of r) pixel r.y b i.0 st (sym q.0) i.2 in
      waits_at a b i.0 (omega (arith, q.2, wide)) (omega (arith, q.0, deep)) i.1
      (below_keep T.w T.h (f T) (painted T p r) r.left (width_of r) pixel r.y _ (pixel i.0 b) m) i.3

  waits_down : (a b : ℕ) → suc b < T.h → InRow r a b → px (painted T p r) T.w a (suc b) ≡ f T → Waits T (pushed T p r st) a (suc b)
  unfolding seeded
  waits_down a b lt q z =
      subst (λ (k : ℕ). Waits T (pushed T p r st) a (suc k)) q.0
      (let i = scanned a (suc r.y) (refl, q.1, q.2) (ap (λ (k : ℕ). px (painted T p r) T.w a (suc k)) q.0 ∙ z) in
      let lt' : suc r.y < T.h = omega (arith, q.0) in
      waits_at a (suc r.y) i.0 (omega (arith, q.2, wide)) lt' i.1
      (below_have T.w T.h (f T) (painted T p r) r.left (width_of r) pixel r.y i.0 _ lt' i.2) i.3)

  -- an old need is met as it was, but for the entry that was taken
  still : (a b : ℕ) → a < T.w → b < T.h → px (painted T p r) T.w a b ≡ f T → Waits T (e ∷ st) a b → Waits T (pushed T p r st) a b
  still a b ha hb z v =
      let u = waits_less T (r ∷ R) rows_of' e st a b (inl hit) (uncovered' a b ha hb z) ha v in
      (u.0, keep u.0 u.1, u.2, u.3, u.4)

  -- every new entry is of the piece
  stack_of' : (d : Pixel) → Mem d (pushed T p r st) → PieceOf T d.col d.line
  unfolding seeded
  stack_of' d m =
      let Ok : Pixel → Type 0 = λ v. PieceOf T v.col v.line in
      ⊎_elim
      (λ i.
      ⊎_elim
      (λ j. G.stack_of d (inr j))
      (λ j.
      let b = j.0 in
      let c = j.1 in
      let s = j.3 in
      let hc : c < T.w = omega (arith, s.high, wide) in
      let hb : b < T.h = omega (arith, j.2, deep) in
      let on : PieceOf T c (suc b) = subst (λ (v : ℕ). PieceOf T c v) (sym j.2) (new_row.all c s.low (omega (arith, s.high, Q.order))) in
      subst Ok (sym j.4) (north on (hc, hb, origin' c b hc hb s.here)))
      (above_from T.w (f T) (painted T p r) r.left (width_of r) pixel r.y st d i))
      (λ i.
      let c = i.0 in
      let s = i.2 in
      let hc : c < T.w = omega (arith, s.high, wide) in
      let on : PieceOf T c r.y = new_row.all c s.low (omega (arith, s.high, Q.order)) in
      subst Ok (sym i.3) (south on (hc, i.1, origin' c (suc r.y) hc i.1 s.here)))
      (below_from T.w T.h (f T) (painted T p r) r.left (width_of r) pixel r.y _ d m)

  pub underway_met : Underway T (painted T p r) (pushed T p r st) (r ∷ R)
  underway_met =
      record {
        ok = G.ok;
        len = row_length T.w T.h T.t p r size Q.order wide deep ∙ G.len;
        rows_of = rows_of';
        once = once';
        done = done';
        kept = kept';
        stack_of = stack_of';
        seed = λ z. still T.x T.y G.ok.in_x G.ok.in_y z (G.seed (was T.x T.y G.ok.in_x z));
        up = λ a b hb c g z.
            let ha : a < T.w = (covered_in T (r ∷ R) rows_of' a (suc b) c).0 in
            ⊎_elim
            (λ q. waits_up a b q z)
            (λ q. still a b ha (omega arith) z (G.up a b hb q g (was a b ha z)))
            c;
        down = λ a b hb c g z.
            let ha : a < T.w = (covered_in T (r ∷ R) rows_of' a b c).0 in
            ⊎_elim
            (λ q. waits_down a b hb q z)
            (λ q. still a (suc b) ha hb z (G.down a b hb q g (was a (suc b) ha z)))
            c;
      }

-- the three ways that a turn can go
module _ (w h f t : ℕ) (p : List ℕ) where
  pub turn_none : turn w h f t p [] ≡ turned p [] []
  unfolding turn
  turn_none = refl

  module _ (e : Pixel) (st : List Pixel) where
    pub turn_passed : (px p w e.col e.line ≡ f → ⊥) → turn w h f t p (e ∷ st) ≡ turned p st []
    unfolding turn
    turn_passed g = rw (turn, ne_eqb (px p w e.col e.line) f g)

    pub turn_met : px p w e.col e.line ≡ f → turn w h f t p (e ∷ st) ≡ meet w h f t p (row_at w f p e.col e.line) st
    unfolding turn
    turn_met g = rw (turn, eq-eqb (px p w e.col e.line) f g)

module _ (T : Task) where
  abbrev After : Turned → List Row → Type 0
  After d R = Underway T d.pic d.stack (d.met ++ R)

  -- the row at an entry
  module _ {p : List ℕ} {e : Pixel} {st : List Pixel} {R : List Row} (G : Underway T p (e ∷ st) R) where
    pub entry_row : px p T.w e.col e.line ≡ f T → RowOf (Same p T.w T.h (f T)) (row_at T.w (f T) p e.col e.line)
    entry_row g = let s = last_of (G.stack_of e (inl refl)) in row_at_lem p T.w (f T) e.line T.h e.col s.0 s.1 g

    pub entry_hit : InRow (row_at T.w (f T) p e.col e.line) e.col e.line
    entry_hit = row_at_holds p T.w (f T) e.line e.col

  pub underway_turn : (p : List ℕ) (st : List Pixel) (R : List Row) → Underway T p st R → After (turn T.w T.h (f T) T.t p st) R
  unfolding meet
  underway_turn p [] R G = subst (λ (d : Turned). After d R) (sym (turn_none T.w T.h (f T) T.t p)) G
  underway_turn p (e ∷ st) R G =
      ⊎_elim
      (λ g. subst (λ (d : Turned). After d R) (sym (turn_met T.w T.h (f T) T.t p e st g)) (underway_met G (entry_row G g) (entry_hit G)))
      (λ g. subst (λ (d : Turned). After d R) (sym (turn_passed T.w T.h (f T) T.t p e st g)) (underway_passed G g))
      (same (px p T.w e.col e.line) (f T))

  -- after n turns of the task
  abbrev pub turns_of : ℕ → State
  turns_of n = turns T.w T.h (f T) T.t n (begun T.P T.x T.y)

  pub underway : Valid T → (n : ℕ) → Underway T (turns_of n).pic (turns_of n).stack (turns_of n).rows
  unfolding turns
  underway ok zero = underway_begun T ok
  underway ok (suc n) = underway_turn (turns_of n).pic (turns_of n).stack (turns_of n).rows (underway ok n)
