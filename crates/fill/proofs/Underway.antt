-- What holds in the middle of a fill. Assumes nothing.
use Prim.Native.Nat.{ℕ, suc, ◌*◌, ◌<◌, ◌≤◌}
use native.Mathlib.Omega.{arith}
use mathlib.Core.Path.{◌≡◌, refl, sym, ap, ◌∙◌, subst}
use mathlib.Core.List.{List, [], ◌∷◌}
use mathlib.Core.Logic.{◌⊎◌, inl, inr, ⊎_elim}
use lib.ListN.{length}
use Rattle.pieces.specs.Picture.{px, Pixel, pixel}
use Rattle.pieces.specs.Count.{Mem, Distinct}
use Rattle.pieces.specs.Chain.{start}
use Rattle.pieces.specs.Piece.{Same, Piece}
use Rattle.pieces.specs.Row.{RowOf, InRow}
use Rattle.pieces.specs.declared.Row.{Row}
use Rattle.pieces.proofs.Numbers.{split, same}
use Rattle.pieces.proofs.Chains.{last_of}
use Rattle.pieces.proofs.Rows.{row_reaches, row_of_set}

-- a fill that is asked for: of the piece of (x, y) in the picture P, with the byte t
pub record Task : Type 0 where
  pub P : List ℕ
  pub w : ℕ
  pub h : ℕ
  pub x : ℕ
  pub y : ℕ
  pub t : ℕ

-- it can be done: the picture has its size, and the seed is in it and not of the byte t
pub record Valid (T : Task) : Type 0 where
  pub size : length T.P ≡ T.w * T.h
  pub in_x : T.x < T.w
  pub in_y : T.y < T.h
  pub other : px T.P T.w T.x T.y ≡ T.t → ⊥

-- the seed's byte; the byte at a pixel as the fill began; the pixels of the seed's byte; the piece
abbrev pub f : Task → ℕ
f T = px T.P T.w T.x T.y

abbrev pub at : Task → ℕ → ℕ → ℕ
at T a b = px T.P T.w a b

abbrev pub SameOf : Task → ℕ → ℕ → Type 0
SameOf T = Same T.P T.w T.h (f T)

abbrev pub PieceOf : Task → ℕ → ℕ → Type 0
PieceOf T = Piece T.P T.w T.h T.x T.y

-- (a, b) is in one of the rows
abbrev pub Covered : List Row → ℕ → ℕ → Type 0
Covered [] a b = ⊥
Covered (r ∷ R) a b = InRow r a b ⊎ Covered R a b

-- an entry waits on the line of (a, b), and all between the two is of the seed's byte
abbrev pub Waits : Task → List Pixel → ℕ → ℕ → Type 0
Waits T st a b =
    (e : Pixel) × Mem e st × (e.line ≡ b) × ((k : ℕ) → e.col ≤ k → k ≤ a → at T k b ≡ f T) × ((k : ℕ) → a ≤ k → k ≤ e.col → at T k b ≡ f T)

-- the picture is p, the entries st wait, and the rows R were met: they are rows of the piece, painted, and all else is as it was.
-- An unpainted pixel of the piece that is the seed, or lies above or below a painted one, is joined along its line to an entry that waits
pub record Underway (T : Task) (p : List ℕ) (st : List Pixel) (R : List Row) : Type 0 where
  pub ok : Valid T
  pub len : length p ≡ length T.P
  pub rows_of : (r : Row) → Mem r R → RowOf (PieceOf T) r
  pub once : Distinct R
  pub done : (a b : ℕ) → a < T.w → b < T.h → Covered R a b → px p T.w a b ≡ T.t
  pub kept : (a b : ℕ) → a < T.w → b < T.h → (Covered R a b → ⊥) → px p T.w a b ≡ at T a b
  pub stack_of : (e : Pixel) → Mem e st → PieceOf T e.col e.line
  pub seed : px p T.w T.x T.y ≡ f T → Waits T st T.x T.y
  pub up : (a b : ℕ) → suc b < T.h → Covered R a (suc b) → at T a b ≡ f T → px p T.w a b ≡ f T → Waits T st a b
  pub down : (a b : ℕ) → suc b < T.h → Covered R a b → at T a (suc b) ≡ f T → px p T.w a (suc b) ≡ f T → Waits T st a (suc b)

-- as it begins
pub underway_begun : (T : Task) → Valid T → Underway T T.P (pixel T.x T.y ∷ []) []
underway_begun T ok =
    record {
      ok = ok;
      len = refl;
      rows_of = λ r m. absurd m;
      once = tt;
      done = λ a b ha hb q. absurd q;
      kept = λ a b ha hb q. refl;
      stack_of = λ e m. ⊎_elim (λ z. subst (λ (v : Pixel). PieceOf T v.col v.line) (sym z) (start (ok.in_x, ok.in_y, refl))) (λ q. absurd q) m;
      seed = λ z. (pixel T.x T.y, inl refl, refl, (λ k u v. ap (λ (j : ℕ). at T j T.y) (omega arith)), (λ k u v. ap (λ (j : ℕ). at T j T.y) (omega arith)));
      up = λ a b hb c. absurd c;
      down = λ a b hb c. absurd c;
    }

-- a row holds a pixel or not, and so do rows
pub in_row? : (r : Row) (a b : ℕ) → InRow r a b ⊎ (InRow r a b → ⊥)
in_row? r a b =
    ⊎_elim
    (λ e. ⊎_elim (λ l. ⊎_elim (λ g. inl (e, l, g)) (λ g. inr (λ q. omega arith)) (split a r.right)) (λ l. inr (λ q. omega arith)) (split r.left a))
    (λ n. inr (λ q. n q.0))
    (same r.y b)

pub covered? : (R : List Row) (a b : ℕ) → Covered R a b ⊎ (Covered R a b → ⊥)
covered? [] a b = inr (λ q. q)
covered? (r ∷ R) a b =
    ⊎_elim (λ q. inl (inl q)) (λ n. ⊎_elim (λ q. inl (inr q)) (λ m. inr (λ q. ⊎_elim n m q)) (covered? R a b)) (in_row? r a b)

-- the row that covers
pub covering : (R : List Row) (a b : ℕ) → Covered R a b → (r : Row) × Mem r R × InRow r a b
covering [] a b q = absurd q
covering (r ∷ R) a b q = ⊎_elim (λ g. (r, inl refl, g)) (λ g. let s = covering R a b g in (s.0, inr s.1, s.2)) q

pub covers : (R : List Row) (r : Row) (a b : ℕ) → Mem r R → InRow r a b → Covered R a b
covers [] r a b m q = absurd m
covers (s ∷ R) r a b m q = ⊎_elim (λ e. inl (subst (λ (v : Row). InRow v a b) e q)) (λ g. inr (covers R r a b g q)) m

module _ (T : Task) (R : List Row) (of : (r : Row) → Mem r R → RowOf (PieceOf T) r) where
  pub covered_piece : (a b : ℕ) → Covered R a b → PieceOf T a b
  covered_piece a b q =
      let s = covering R a b q in
      subst (λ (v : ℕ). PieceOf T a v) s.2.0 ((of s.0 s.1).all a s.2.1 s.2.2)

  pub covered_in : (a b : ℕ) → Covered R a b → (a < T.w) × (b < T.h)
  covered_in a b q = let s = last_of (covered_piece a b q) in (s.0, s.1)

  -- rows are whole: a pixel that is joined along its line to a covered one is covered
  pub covered_along : (a c b : ℕ) → Covered R a b → c < T.w → ((k : ℕ) → a ≤ k → k ≤ c → at T k b ≡ f T) → ((k : ℕ) → c ≤ k → k ≤ a → at T k b ≡ f T) → Covered R c b
  covered_along a c b q hc on back =
      let s = covering R a b q in
      let i = covered_in a b q in
      let held = row_reaches (row_of_set (of s.0 s.1)) a b c s.2 (λ k u v. (omega arith, i.1, on k u v)) (λ k u v. (omega (arith, i.0), i.1, back k u v)) in
      covers R s.0 c b s.1 held

  -- an entry whose pixel is covered serves no pixel that is not
  pub waits_less : (e : Pixel) (st : List Pixel) (a b : ℕ) → Covered R e.col e.line → (Covered R a b → ⊥) → a < T.w → Waits T (e ∷ st) a b → Waits T st a b
  waits_less e st a b q n ha v =
      ⊎_elim
      (λ z. absurd (n (covered_along v.0.col a b (subst (λ (k : ℕ). Covered R v.0.col k) v.2 (subst (λ (u : Pixel). Covered R u.col u.line) (sym z) q)) ha v.3 v.4)))
      (λ m. (v.0, m, v.2, v.3, v.4))
      v.1

-- the seed's byte shows where nothing is painted, and only there
module _ {T : Task} {p : List ℕ} {st : List Pixel} {R : List Row} (G : Underway T p st R) where
  pub uncovered : (a b : ℕ) → a < T.w → b < T.h → px p T.w a b ≡ f T → Covered R a b → ⊥
  uncovered a b ha hb e q = G.ok.other (sym e ∙ G.done a b ha hb q)

  pub origin : (a b : ℕ) → a < T.w → b < T.h → px p T.w a b ≡ f T → at T a b ≡ f T
  origin a b ha hb e = sym (G.kept a b ha hb (uncovered a b ha hb e)) ∙ e

  pub covered : (a b : ℕ) → a < T.w → b < T.h → at T a b ≡ f T → (px p T.w a b ≡ f T → ⊥) → Covered R a b
  covered a b ha hb e n = ⊎_elim (λ q. q) (λ q. absurd (n (G.kept a b ha hb q ∙ e))) (covered? R a b)

  -- a row of that byte in the picture as it is was one as the fill began
  pub row_origin : {r : Row} → RowOf (Same p T.w T.h (f T)) r → RowOf (SameOf T) r
  row_origin {r} Q =
      let first = Q.all r.left (omega arith) Q.order in
      let last = Q.all r.right Q.order (omega arith) in
      let own : (k : ℕ) → r.left ≤ k → k ≤ r.right → SameOf T k r.y = λ k u v.
      let s = Q.all k u v in
      (s.0, s.1, origin k r.y s.0 s.1 s.2) in
      record {
        order = Q.order;
        all = own;
        before = λ k e s.
            let on = covered k r.y s.0 s.1 s.2 (λ z. Q.before k e (s.0, s.1, z)) in
            uncovered r.left r.y first.0 first.1 first.2 (covered_along T R G.rows_of k r.left r.y on first.0
            (λ j u v. ⊎_elim (λ z. ap (λ (i : ℕ). at T i r.y) z ∙ s.2) (λ z. (own j (omega arith) (omega (arith, Q.order))).2) (same j k))
            (λ j u v. absurd (omega arith)));
        after = λ s.
            let on = covered (suc r.right) r.y s.0 s.1 s.2 (λ z. Q.after (s.0, s.1, z)) in
            uncovered r.right r.y last.0 last.1 last.2 (covered_along T R G.rows_of (suc r.right) r.right r.y on last.0
            (λ j u v. absurd (omega arith))
            (λ j u v. ⊎_elim (λ z. ap (λ (i : ℕ). at T i r.y) z ∙ s.2) (λ z. (own j (omega (arith, Q.order)) (omega arith)).2) (same j (suc r.right))));
      }
