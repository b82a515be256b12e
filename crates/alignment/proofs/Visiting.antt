-- What a visit keeps, and what it shows where it answers. Assumes nothing.
use Rattle.std.specs.Prelude.{Result}
use Rattle.refusals.specs.declared.Refusal.{Refusal}
use Prim.Native.Nat.{ℕ, ◌<◌}
use native.Mathlib.Omega.{arith}
use mathlib.Core.Path.{◌≡◌}
use mathlib.Core.Bool.{true, false}
use mathlib.Core.List.{List}
use lib.ListN.{length}
use Rattle.picture.specs.Sides.{Roomy}
use Rattle.points.specs.declared.Point.{Point}
use Rattle.pieces.specs.Picture.{px}
use Rattle.table.specs.Sound.{sound_test}
use Rattle.table.specs.declared.Table.{Table}
use Rattle.table.proofs.Exact.{sound_exact}
use Rattle.table.proofs.Kept.{Proper}
use Rattle.regions.specs.Tests.{unlisted, Lookable}
use Rattle.regions.proofs.Accepted.{below}
use Rattle.alignment.specs.Visit.{white, not_listed, looked, Visits, beside, at_pixel}
use Rattle.alignment.specs.declared.visit.Visit.{Visit}
use Rattle.alignment.proofs.Places.{pixel_in}
use Rattle.alignment.proofs.Kept.{Kept, kept_still, look_keeps}

-- the test that a lookup makes of its table
pub proper_test : {T : Table} {w h : ℕ} → Proper T w h → sound_test T w h ≡ true
proper_test {T} {w} {h} P = (sound_exact T w h (omega (arith, P.age))).1 P.sound

module _ {p : List ℕ} {w h lent : ℕ} {T : Table} (R : Roomy w h (length p) lent) (P : Proper T w h) where
  -- a pixel that is looked up can be
  pub can_look : {x y : ℕ} → x < w → y < h → (px p w x y ≡ 0 → ⊥) → unlisted (px p w x y) T.n ≡ false → Lookable p w h lent T x y
  can_look {x} {y} hx hy dark listed =
      record {
        seeded = record { sized = R.sized; room = R.room; in_x = hx; in_y = hy };
        table = proper_test P;
        dark = dark;
        listed = λ k e. below (px p w x y) T.n k listed e;
      }

  pub visit_keeps : {estimate : ℕ} {at : Point} {v : Result Visit Refusal} {q : List ℕ} {U : Table} → Visits p w h T estimate at v q U → Kept p w h q U
  visit_keeps (beside o e s t) = kept_still P s t
  visit_keeps (at_pixel x y o (white z e s t)) = kept_still P s t
  visit_keeps (at_pixel x y o (not_listed dark u e s t)) = kept_still P s t
  visit_keeps {at = at} (at_pixel x y o (looked dark u a L e)) =
      let i = pixel_in w h at.x at.y x y o in
      look_keeps P (can_look i.2 i.3 dark u) L
