-- Where no test applies a claim can be made, and what the fill then paints and counts is what the claim promises. Assumes nothing.
use Prim.Native.Nat.{ℕ}
use native.Mathlib.Omega.{arith}
use mathlib.Core.Path.{◌≡◌, sym, subst}
use mathlib.Core.List.{List}
use lib.ListN.{length}
use borrow.Author.Tests.{eqb-false}
use Rattle.refusals.specs.First.{first, sound}
use Rattle.refusals.proofs.First.{Clear, clear}
use Rattle.picture.specs.Sides.{Seeded}
use Rattle.picture.proofs.Passed.{clear_seeded}
use Rattle.pieces.specs.Picture.{px}
use Rattle.pieces.specs.Piece.{Piece, Pixels}
use Rattle.pieces.specs.Row.{Rows}
use Rattle.pieces.specs.Pairs.{Pushes}
use Rattle.pieces.specs.Paint.{Paints}
use Rattle.pieces.proofs.Rows.{room_enough}
use Rattle.fill.specs.Fill.{Fillable}
use Rattle.fill.specs.Fold.{Counted}
use Rattle.fill.specs.declared.paint.Counts.{Counts}
use Rattle.fill.proofs.Filling.{can_fill}
use Rattle.fill.proofs.Laws.{rows_counted, pixels_counted, pushes_counted}
use Rattle.claim.specs.Tests.{claim_tests}
use Rattle.claim.specs.Outcome.{ClaimsPiece}

module _ (pic : List ℕ) (width height lent x y target : ℕ) (passed : first (claim_tests pic width height lent x y target) sound ≡ sound) where
  cleared : Clear (claim_tests pic width height lent x y target)
  cleared = clear (claim_tests pic width height lent x y target) passed

  pub claim_seeded : Seeded width height (length pic) lent x y
  claim_seeded = let c = cleared in clear_seeded width height (length pic) lent x y (c.0, (c.1.0, (c.1.1.0, (c.1.1.1.0, tt))))

  pub claim_fillable : Fillable pic width height x y target lent
  claim_fillable =
      let s = claim_seeded in
      record {
        sized = record { size = s.sized.whole; wide = omega (arith, s.sized.wide); tall = omega (arith, s.sized.tall) };
        in_x = s.in_x;
        in_y = s.in_y;
        other = eqb-false (px pic width x y) target cleared.1.1.1.1.1.1.0;
        enough = room_enough pic width height x y s.in_x s.in_y lent s.room;
      }

  pub claims_piece : {pic' : List ℕ} {counts : Counts} → Paints pic width height x y target pic' → Counted pic width height x y target counts → ClaimsPiece pic width height x y target pic' counts
  claims_piece P C =
      let ok = can_fill claim_fillable in
      record {
        paints = P;
        rows = subst (Rows (Piece pic width height x y)) (sym C.rows) (rows_counted ok);
        pixels = subst (Pixels (Piece pic width height x y)) (sym C.pixels) (pixels_counted ok);
        pushes = subst (Pushes (Piece pic width height x y)) (sym C.pushes) (pushes_counted ok);
      }
