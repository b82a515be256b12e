-- A picture in work can be looked up wherever it is dark, and lookups keep it in work. Assumes nothing.
use Prim.Native.Nat.{ℕ, ◌*◌, ◌<◌, ◌≤◌}
use native.Mathlib.Omega.{arith}
use mathlib.Core.Path.{◌≡◌, sym, ◌∙◌}
use mathlib.Core.List.{List}
use mathlib.Core.Logic.{◌↔◌, ⊎_elim}
use lib.ListN.{length}
use Rattle.pieces.specs.Picture.{px}
use Rattle.pieces.specs.Piece.{Dark}
use Rattle.table.specs.declared.Table.{Table}
use Rattle.table.proofs.Exact.{sound_exact}
use Rattle.regions.specs.Found.{Answer, unclaimed}
use Rattle.regions.specs.Tests.{Lookable}
use Rattle.regions.specs.Lookup.{Looks}
use Rattle.regions.specs.declared.Region.{Region}
use Rattle.demand.specs.Run.{Event}
use Rattle.demand.proofs.Kept.{Kept}
use Rattle.demand.proofs.Next.{look_keeps}
use Rattle.scanner.specs.Edges.{dark}
use Rattle.scanner.proofs.Painted.{dark_alike}
use Rattle.marks.specs.InWork.{InWork}
use Rattle.marks.specs.Ring.{Counted}
use Rattle.marks.proofs.Plain.{claim_answers}
use Rattle.marks.proofs.Sizes.{some_pixels, few_pixels}

-- q is in work as p was, and is white in the same places, pixel by pixel and along a line
pub record Goes (p : List ℕ) (w h : ℕ) (q : List ℕ) (lent : ℕ) (U : Table) : Type 0 where
  pub work : InWork q w h lent U
  pub white : (a b : ℕ) → a < w → b < h → (px q w a b ≡ 0) ↔ (px p w a b ≡ 0)
  pub alike : (base x : ℕ) → dark p base x ≡ dark q base x

-- what keeps the bitmap's calls in order keeps the picture in work
pub goes : {p : List ℕ} {w h lent : ℕ} {T : Table} (W : InWork p w h lent T) {q : List ℕ} {U : Table} {room : ℕ} {E : List Event} → lent ≤ room → Kept W.bitmap w h E q U → Goes p w h q room U
goes {p} {w} {h} {lent} W {q} {U} {room} {E} more K =
    let S = W.roomy.sized in
    let size : length W.bitmap ≡ w * h = sym W.kept.paint.len ∙ S.whole in
    let len : length q ≡ length p = K.paint.len ∙ sym W.kept.paint.len in
    record {
      work =
          record {
            bitmap = W.bitmap;
            calls = E;
            kept = K;
            roomy = record { sized = record { some_width = S.some_width; wide = S.wide; some_height = S.some_height; tall = S.tall; whole = len ∙ S.whole }; room = omega (arith, W.roomy.room) };
          };
      white = λ a b ha hb. (
        (λ e. (W.kept.paint.white a b ha hb).1 ((K.paint.white a b ha hb).0 e)),
        (λ e. (K.paint.white a b ha hb).1 ((W.kept.paint.white a b ha hb).0 e)),
      );
      alike = λ base x. sym (dark_alike W.bitmap w h p size S.some_width W.kept.paint base x) ∙ dark_alike W.bitmap w h q size S.some_width K.paint base x;
    }

-- one after the other
pub goes_on : {p : List ℕ} {w h : ℕ} {q : List ℕ} {lent : ℕ} {U : Table} {r : List ℕ} {room : ℕ} {Z : Table} → Goes p w h q lent U → Goes q w h r room Z → Goes p w h r room Z
goes_on G H =
    record {
      work = H.work;
      white = λ a b ha hb. ((λ e. (G.white a b ha hb).0 ((H.white a b ha hb).0 e)), (λ e. (H.white a b ha hb).1 ((G.white a b ha hb).1 e)));
      alike = λ base x. G.alike base x ∙ H.alike base x;
    }

-- with no call at all, whatever more is lent
pub goes_still : {p : List ℕ} {w h lent : ℕ} {T : Table} → InWork p w h lent T → {room : ℕ} → lent ≤ room → Goes p w h p room T
goes_still W more = goes W more W.kept

module _ {p : List ℕ} {w h lent : ℕ} {T : Table} (W : InWork p w h lent T) {x y : ℕ} (hx : x < w) (hy : y < h) (dark : px p w x y ≡ 0 → ⊥) where
  pub can_look : Lookable p w h lent T x y
  can_look =
      record {
        seeded = record { sized = W.roomy.sized; room = W.roomy.room; in_x = hx; in_y = hy };
        table = (sound_exact T w h (omega (arith, W.kept.table.age))).1 W.kept.table.sound;
        dark = dark;
        listed = λ k is. (W.kept.home x y k hx hy is).below;
      }

  module _ {a : Answer} {q : List ℕ} {U : Table} (L : Looks p w h x y T a q U) where
    pub look_goes : {room : ℕ} → lent ≤ room → Goes p w h q room U
    look_goes more = goes W more (look_keeps W.kept can_look L).0

    same_region : (r s : Region) → unclaimed r ≡ unclaimed s → r ≡ s
    same_region r s e = cc

    -- a region that is answered has a count that can be compared
    pub look_counted : (r : Region) → a ≡ unclaimed r → Counted r
    look_counted r e =
        ⊎_elim
        (λ c. absurd (claim_answers L c r e))
        (λ n.
        let is : n.0 ≡ r = same_region n.0 r (sym n.1 ∙ e) in
        let here : Dark W.bitmap w h x y = (hx, hy, (λ z. dark ((W.kept.paint.white x y hx hy).1 z))) in
        rw (← is) (record { some = some_pixels W.bitmap n.2.pixels here; few = few_pixels W.bitmap n.2.pixels W.roomy.sized }))
        (look_keeps W.kept can_look L).1
