-- What the tests of fit say where they pass: picture, stack, scratch and table can be worked with, the group's corners are the picture's, and its centres near. Assumes nothing.
use Prim.Native.Nat.{ℕ, ◌*◌, ◌≤◌}
use native.Mathlib.Omega.{arith}
use mathlib.Core.Path.{◌≡◌, refl}
use mathlib.Core.List.{List}
use mathlib.Core.Bool.{true, ◌&&◌, and-eq-true_iff}
use lib.IntN.{ℤ, pos, negsuc}
use lib.ListN.{length}
use borrow.Author.Tests.{ltb-true, ltb-false, not-false}
use Rattle.refusals.specs.First.{first, sound}
use Rattle.refusals.proofs.First.{clear}
use Rattle.refusals.specs.Limits.{longest_side}
use Rattle.points.specs.Range.{Inside, Within}
use Rattle.points.specs.declared.Point.{Point}
use Rattle.picture.proofs.Passed.{clear_roomy}
use Rattle.table.specs.declared.Table.{Table}
use Rattle.stated.specs.Stated.{near}
use Rattle.stated.proofs.Reach.{near_is}
use Rattle.capstones.specs.declared.CapStone.{CapStone}
use Rattle.groups.specs.Group.{Centred, Framed, Cornered}
use Rattle.groups.specs.declared.CapStoneGroup.{CapStoneGroup}
use Rattle.fourth_corner.specs.Corner.{Workable}
use Rattle.fit.specs.Tests.{along, on_picture, stone_inside, stone_taken, group_taken, fit_tests}

module _ (w h : ℕ) (wide : w ≤ longest_side) (tall : h ≤ longest_side) where
  along_inside : (side : ℕ) → side ≤ longest_side → (z : ℤ) → along side z ≡ true → Inside z
  unfolding along
  along_inside side few (pos n) e = let low = ltb-true n side e in record { n = n; is = refl; low = omega arith }
  along_inside side few (negsuc n) e = let z : ◌≡◌ {A = ℕ} 0 1 = cc in absurd (omega arith)

  on_within : (p : Point) → on_picture w h p ≡ true → Within p
  unfolding on_picture
  on_within p e =
      let both = (and-eq-true_iff (along w p.x) (along h p.y)).0 e in
      record { x = along_inside w wide p.x both.0; y = along_inside h tall p.y both.1 }

  inside_framed : (s : CapStone) → stone_inside w h s ≡ true → Framed s
  unfolding stone_inside
  inside_framed s e =
      let a = (and-eq-true_iff (on_picture w h s.corner0) (on_picture w h s.corner1 && (on_picture w h s.corner2 && on_picture w h s.corner3))).0 e in
      let b = (and-eq-true_iff (on_picture w h s.corner1) (on_picture w h s.corner2 && on_picture w h s.corner3)).0 a.1 in
      let c = (and-eq-true_iff (on_picture w h s.corner2) (on_picture w h s.corner3)).0 b.1 in
      record { corner0 = on_within s.corner0 a.0; corner1 = on_within s.corner1 b.0; corner2 = on_within s.corner2 c.0; corner3 = on_within s.corner3 c.1 }

  taken_both : (s : CapStone) → stone_taken w h s ≡ true → (stone_inside w h s ≡ true) × (near s.center ≡ true)
  unfolding stone_taken
  taken_both s e = (and-eq-true_iff (stone_inside w h s) (near s.center)).0 e

  pub group_taken_lem : (g : CapStoneGroup) → group_taken w h g ≡ true → Centred g × Cornered g
  unfolding group_taken
  group_taken_lem g e =
      let a = (and-eq-true_iff (stone_taken w h g.first) (stone_taken w h g.second && stone_taken w h g.third)).0 e in
      let b = (and-eq-true_iff (stone_taken w h g.second) (stone_taken w h g.third)).0 a.1 in
      let first = taken_both g.first a.0 in
      let second = taken_both g.second b.0 in
      let third = taken_both g.third b.1 in (
        record { first = near_is _ first.1; second = near_is _ second.1; third = near_is _ third.1 },
        record { first = inside_framed _ first.0; second = inside_framed _ second.0; third = inside_framed _ third.0 },
      )

-- what fit needs, and its tests give
pub record Fittable (p : List ℕ) (w h lent room : ℕ) (T : Table) (g : CapStoneGroup) : Type 0 where
  pub workable : Workable p w h lent T
  pub scratch : w * h ≤ room
  pub centred : Centred g
  pub cornered : Cornered g

pub fittable : (p : List ℕ) (w h lent room : ℕ) (T : Table) (g : CapStoneGroup) → first (fit_tests w h (length p) lent room T g) sound ≡ sound → Fittable p w h lent room T g
fittable p w h lent room T g e =
    let c = clear (fit_tests w h (length p) lent room T g) e in
    let R = clear_roomy w h (length p) lent (c.0, (c.1.0, (c.1.1.0, tt))) in
    let own = c.1.1.1 in
    let stones = group_taken_lem w h R.sized.wide R.sized.tall g (not-false _ own.1.1.0) in
    record {
      workable = record { roomy = R; sound = not-false _ own.1.0 };
      scratch = ltb-false room (w * h) own.0;
      centred = stones.0;
      cornered = stones.1;
    }
