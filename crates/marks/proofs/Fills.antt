-- A ring that is not claimed can be filled with 4, and then with 2; the first fill finds a point of the picture, and both keep the picture in work. Assumes nothing.
use Prim.Native.Nat.{ℕ, ◌<◌, ◌≤◌}
use native.Mathlib.Omega.{arith}
use mathlib.Core.Path.{◌≡◌, refl, ◌∙◌}
use mathlib.Core.List.{List}
use lib.Dec.{lit≤}
use Rattle.points.specs.Range.{Within}
use Rattle.pieces.specs.Picture.{px}
use Rattle.pieces.specs.Chain.{start}
use Rattle.pieces.specs.Paint.{Paints}
use Rattle.fill.specs.Fill.{Fillable}
use Rattle.fill.proofs.Filling.{can_fill}
use Rattle.corners.specs.Rows.{Sides, point_at}
use Rattle.corners.proofs.Small.{point_within}
use Rattle.corners.proofs.Farthest.{first_corner_farthest, highest_within}
use Rattle.regions.proofs.Asks.{can_paint}
use Rattle.fill.proofs.Laws.{pixels_counted}
use Rattle.refusals.specs.Finding.{found}
use Rattle.table.specs.declared.Table.{Table}
use Rattle.corners.specs.declared.all_corners.AllCornerFinder.{AllCornerFinder}
use Rattle.demand.specs.Run.{Event, claim}
use Rattle.demand.proofs.Accepted.{Repaints}
use Rattle.demand.proofs.Kept.{kept_claim}
use Rattle.marks.specs.InWork.{InWork}
use Rattle.marks.specs.Stone.{Ringed, first_corner, Rings}
use Rattle.marks.proofs.Work.{Goes, goes, goes_on}

module _ {p : List ℕ} {w h lent x y : ℕ} (R : Ringed p w h lent x y) where
  pub ring_sides : Sides w h
  ring_sides = let S = R.seeded.sized in record { wide = S.wide; tall = S.tall }

  pub fill_four : Fillable p w h x y 4 lent
  fill_four =
      let S = R.seeded.sized in
      can_paint (record { size = S.whole; wide = omega (arith, S.wide); tall = omega (arith, S.tall) }) R.seeded.in_x R.seeded.in_y R.seeded.room (λ e. R.unclaimed (omega arith) (omega arith))

  -- the seed, and the corner that the first fill finds
  pub seed_low : (x < 800) × (y < 800)
  seed_low = let S = R.seeded in (omega (arith, S.in_x, S.sized.wide), omega (arith, S.in_y, S.sized.tall))

  pub seed_within : Within (point_at x y)
  seed_within = point_within seed_low.0 seed_low.1

  pub corner_within : Within (first_corner p w h x y)
  unfolding first_corner
  corner_within = highest_within p ring_sides (first_corner_farthest (can_fill fill_four) (point_at x y))

  -- once the ring shows 4
  module _ {m : List ℕ} (P : Paints p w h x y 4 m) where
    pub shows_four : px m w x y ≡ 4
    shows_four = P.piece x y (start (R.seeded.in_x, R.seeded.in_y, refl))

    pub fill_two : {room : ℕ} → lent ≤ room → Fillable m w h x y 2 room
    fill_two more =
        let S = R.seeded.sized in
        can_paint (record { size = P.len ∙ S.whole; wide = omega (arith, S.wide); tall = omega (arith, S.tall) }) R.seeded.in_x R.seeded.in_y (omega (arith, R.seeded.room)) (λ e. omega (arith, shows_four))

-- a fill with 2, 3 or 4 is a claim, and a claim keeps the picture in work
claim-goes :
    {p : List ℕ} {w h lent : ℕ} {T : Table} (W : InWork p w h lent T) {x y t n room : ℕ} {q : List ℕ} → lent ≤ room → Repaints p w h x y t q n → Goes p w h q room T
claim-goes {w = w} {h = h} {lent = lent} W {x} {y} {t} more R =
    let e : Event = claim w h lent x y t (found (record { rows = 0; pixels = 0; pushes = 0 })) in
    goes W more (kept_claim W.kept e (λ a b c z. z) (λ a b z. (z, refl)) R)

module _ {p : List ℕ} {w h lent : ℕ} {T : Table} (W : InWork p w h lent T) {x y : ℕ} (R : Ringed p w h lent x y) {f : AllCornerFinder} {q : List ℕ} (F : Rings p w h x y f q) where
  four_goes : Goes p w h F.between lent T
  four_goes =
      claim-goes W (omega arith)
      (record { in_x = R.seeded.in_x; in_y = R.seeded.in_y; dark = R.dark; low = lit≤ tt; high = lit≤ tt; paint = F.four; pixels = pixels_counted (can_fill (fill_four R)) })

  pub rings_go : {room : ℕ} → lent ≤ room → Goes p w h q room T
  rings_go more =
      goes_on four_goes
      (claim-goes four_goes.work more
      (record { in_x = R.seeded.in_x; in_y = R.seeded.in_y; dark = λ e. omega (arith, shows_four R F.four); low = lit≤ tt; high = lit≤ tt; paint = F.two; pixels = pixels_counted (can_fill (fill_two R F.four {room = lent} (omega arith))) }))
