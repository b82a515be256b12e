-- A lookup, and so a visit and a search, keeps the picture's length, the table sound, and white what is white. Assumes nothing.
use Prim.Native.Nat.{ℕ, ◌<◌}
use native.Mathlib.Omega.{arith}
use mathlib.Core.Path.{◌≡◌, refl, sym, ap, ◌∙◌}
use mathlib.Core.List.{List}
use lib.ListN.{length}
use Rattle.pieces.specs.Picture.{px}
pub use Rattle.pieces.specs.Picture.{SameWhite}
use Rattle.pieces.specs.Paint.{Paints}
use Rattle.pieces.proofs.Chains.{last_of}
use Rattle.table.specs.declared.Entry.{Entry}
use Rattle.table.specs.declared.Table.{Table}
use Rattle.table.proofs.Exact.{test_oldest}
use Rattle.table.proofs.Kept.{Proper, proper_newest, proper_added, proper_replaced}
use Rattle.regions.specs.Found.{Answer}
use Rattle.regions.specs.Tests.{Lookable}
use Rattle.regions.specs.Lookup.{given_up, FilledBack, in_paint, out_of_paint, Looks, at_claimed, at_known, at_fresh, at_again}
use Rattle.regions.proofs.Twice.{measured_inside}
use Rattle.regions.proofs.Unique.{back_length}

-- a picture that stays as it was, and one that is worked on twice
still_white : (w h : ℕ) {p q : List ℕ} → q ≡ p → SameWhite w h p q
still_white w h {p} {q} e x y hx hy = let s : px q w x y ≡ px p w x y = ap (λ (v : List ℕ). px v w x y) e in ((λ z. s ∙ z), (λ z. sym s ∙ z))

white_on : {w h : ℕ} (p m q : List ℕ) → SameWhite w h p m → SameWhite w h m q → SameWhite w h p q
white_on p m q A B x y hx hy = ((λ z. (B x y hx hy).0 ((A x y hx hy).0 z)), (λ z. (A x y hx hy).1 ((B x y hx hy).1 z)))

-- painting a piece that is not white with what is not white
pub paint_white : {p : List ℕ} {w h x y t : ℕ} {q : List ℕ} → (px p w x y ≡ 0 → ⊥) → 0 < t → Paints p w h x y t q → SameWhite w h p q
paint_white {p} {w} {h} dark some P a b ha hb = (
  (λ z. P.rest a b ha hb (λ c. dark (sym (last_of c).2 ∙ z)) ∙ z),
  (λ z. sym (P.rest a b ha hb (λ c. let shows = P.piece a b c in omega arith)) ∙ z),
)

back_white : {p : List ℕ} {w h : ℕ} {e : Entry} {k : ℕ} {m : List ℕ} → FilledBack p w h e k m → SameWhite w h p m
back_white (in_paint s P) = paint_white (λ z. omega arith) (omega arith) P
back_white {w = w} {h = h} (out_of_paint s e) = still_white w h e

-- what work on p and a sound table keeps
pub record Kept (p : List ℕ) (w h : ℕ) (q : List ℕ) (U : Table) : Type 0 where
  pub len : length q ≡ length p
  pub proper : Proper U w h
  pub white : SameWhite w h p q

pub kept_on : {p : List ℕ} {w h : ℕ} {m : List ℕ} {B : Table} {q : List ℕ} {U : Table} → Kept p w h m B → Kept m w h q U → Kept p w h q U
kept_on {p} {m = m} {q = q} K L = record { len = L.len ∙ K.len; proper = L.proper; white = white_on p m q K.white L.white }

pub kept_still : {p : List ℕ} {w h : ℕ} {T : Table} {q : List ℕ} {U : Table} → Proper T w h → q ≡ p → U ≡ T → Kept p w h q U
kept_still {w = w} {h = h} P e g = record { len = ap length e; proper = rw g P; white = still_white w h e }

module _ {p : List ℕ} {w h lent : ℕ} {T : Table} {x y : ℕ} (P : Proper T w h) (L : Lookable p w h lent T x y) where
  pub look_keeps : {a : Answer} {q : List ℕ} {U : Table} → Looks p w h x y T a q U → Kept p w h q U
  look_keeps (at_claimed C) = kept_still P C.picture C.table
  look_keeps (at_known K) = rw K.table (kept_still (proper_newest P K.number (L.listed K.number K.shows)) K.picture refl)
  look_keeps (at_fresh F) =
      let S = L.seeded in
      record {
        len = F.paint.len;
        proper = rw F.table (proper_added P F.entry F.few (measured_inside S.in_x S.in_y F.measures));
        white = paint_white L.dark (omega arith) F.paint;
      }
  look_keeps {q = q} (at_again G) =
      let S = L.seeded in
      let k = given_up T in
      let few : k < T.n = test_oldest T w h L.table (omega (arith, G.full)) in
      record {
        len = G.paint.len ∙ back_length G.back;
        proper = rw G.table (proper_replaced P k G.entry few (measured_inside S.in_x S.in_y G.measures));
        white = white_on p G.between q (back_white G.back) (paint_white (λ z. L.dark ((back_white G.back x y S.in_x S.in_y).1 z)) (omega arith) G.paint);
      }
