-- What an accepted claim shows: it paints a piece that is not white, with 2, 3 or 4. Assumes nothing.
use Prim.Native.Nat.{ℕ, ◌<◌, ◌≤◌}
use mathlib.Core.Path.{◌≡◌}
use mathlib.Core.Bool.{and-eq-true_iff}
use mathlib.Core.List.{List}
use lib.Dec.{leb}
use borrow.Author.Tests.{eqb-false, leb-true, not-false}
use Rattle.refusals.specs.First.{first, sound}
use Rattle.refusals.proofs.First.{clear}
use Rattle.pieces.specs.Picture.{px}
use Rattle.pieces.specs.Piece.{Piece, Pixels}
use Rattle.pieces.specs.Paint.{Paints}
use Rattle.fill.specs.declared.paint.Counts.{Counts}
use Rattle.claim.specs.Tests.{claim_tests}
use Rattle.claim.specs.Outcome.{ClaimsPiece}
use Rattle.claim.proofs.Accepted.{claim_seeded}

pub record Repaints (p : List ℕ) (w h x y target : ℕ) (q : List ℕ) (n : ℕ) : Type 0 where
  pub in_x : x < w
  pub in_y : y < h
  pub dark : px p w x y ≡ 0 → ⊥
  pub low : 2 ≤ target
  pub high : target ≤ 4
  pub paint : Paints p w h x y target q
  pub pixels : Pixels (Piece p w h x y) n

pub repaints : (p : List ℕ) (w h lent x y target : ℕ) {q : List ℕ} {c : Counts}
    → first (claim_tests p w h lent x y target) sound ≡ sound → ClaimsPiece p w h x y target q c → Repaints p w h x y target q c.pixels
repaints p w h lent x y target e C =
    let tests = (clear (claim_tests p w h lent x y target) e).1.1.1.1 in
    let t = (and-eq-true_iff (leb 2 target) (leb target 4)).0 (not-false _ tests.0) in
    let S = claim_seeded p w h lent x y target e in
    record {
      in_x = S.in_x;
      in_y = S.in_y;
      dark = eqb-false (px p w x y) 0 tests.1.0;
      low = leb-true 2 target t.0;
      high = leb-true target 4 t.1;
      paint = C.paints;
      pixels = C.pixels;
    }
