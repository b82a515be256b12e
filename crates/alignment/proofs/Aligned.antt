-- What claiming the alignment pattern asks and gives: the point is the leftmost of its piece, and all is determined. Assumes nothing.
use Rattle.std.specs.Prelude.{Some}
use Prim.Native.Nat.{ℕ, ◌^◌, ◌≤◌, ◌<◌}
use native.Mathlib.Omega.{arith}
use mathlib.Core.Path.{◌≡◌, sym, ap, ◌∙◌}
use mathlib.Core.List.{List}
use lib.Dec.{lit<}
use lib.IntN.{ℤ, pos, nat_abs}
use lib.ListN.{length}
use Rattle.points.specs.Range.{Inside, Within}
use Rattle.points.specs.declared.Point.{Point}
use Rattle.picture.specs.Sides.{Roomy}
use Rattle.pieces.specs.Picture.{px}
use Rattle.pieces.specs.Piece.{Piece}
use Rattle.pieces.specs.Paint.{Paints}
use Rattle.pieces.proofs.Paints.{paints_unique}
use Rattle.fill.specs.Order.{rows_met}
use Rattle.fill.specs.Fill.{Fillable}
use Rattle.fill.specs.Fold.{folded}
use Rattle.fill.proofs.Filling.{can_fill}
use Rattle.regions.proofs.Asks.{can_paint}
use Rattle.corners.specs.First.{Highest}
use Rattle.corners.specs.Rows.{Sides, point_at, by_ends}
use Rattle.corners.specs.Scores.{Direction, left_of}
use Rattle.corners.specs.Finders.{left_most_from, left_most_sees}
use Rattle.corners.proofs.Farthest.{left_most_farthest, highest_within}
use Rattle.corners.proofs.Signed.{back, is_own, is_back}
use Rattle.corners.proofs.Small.{point_within}
use Rattle.alignment.specs.Visit.{place_of}
use Rattle.alignment.specs.Pattern.{Claimable, Aligns}
use Rattle.alignment.proofs.Places.{pixel_in, on_picture_lem}
use Rattle.alignment.proofs.Kept.{SameWhite, paint_white}
use Rattle.alignment.proofs.Sighted.{Sighted}

-- a pixel's coordinate has a size that `unsigned_abs` takes, as a search looks for it
pub inside_low : (z : ℤ) → Inside z → nat_abs (back z) < 2 ^ 31
inside_low z I =
    let h = I.low in
    let low : nat_abs z ≤ 799 = rw I.is (omega arith) in
    rw (is_back (is_own low (lit< tt))) (omega (arith, low))

-- the point that a place has as a pixel
point_is : (w h : ℕ) (at : Point) (x y : ℕ) → place_of w h at ≡ Some (x, y) → at ≡ point_at x y
point_is w h at x y e =
    let i = pixel_in w h at.x at.y x y e in
    let ex = i.0 in
    let ey = i.1 in
    λ k. record { x = ex k; y = ey k }

module _ {p : List ℕ} {w h lent : ℕ} {at hd : Point} (C : Claimable p w h lent at hd) where
  on : (at.x ≡ pos C.x) × (at.y ≡ pos C.y) × (C.x < w) × (C.y < h)
  on = pixel_in w h at.x at.y C.x C.y C.place

  pub column_is : nat_abs at.x ≡ C.x
  column_is = ap nat_abs on.0

  pub line_is : nat_abs at.y ≡ C.y
  line_is = ap nat_abs on.1

  pub place_within : Within at
  place_within = rw (point_is w h at C.x C.y C.place) (point_within (omega (arith, on.2, C.roomy.sized.wide)) (omega (arith, on.3, C.roomy.sized.tall)))

  pub both_sides : Sides w h
  both_sides = record { wide = C.roomy.sized.wide; tall = C.roomy.sized.tall }

  can_claim : Fillable p w h C.x C.y 3 lent
  can_claim =
      let S = C.roomy.sized in
      can_paint (record { size = S.whole; wide = omega (arith, S.wide); tall = omega (arith, S.tall) }) on.2 on.3 C.roomy.room C.other

  -- by the coordinates' sizes, as the code has them
  pub claim_fills : Fillable p w h (nat_abs at.x) (nat_abs at.y) 3 lent
  claim_fills = rw (column_is, line_is) can_claim

  pub claim_place : place_of w h at ≡ Some (nat_abs at.x, nat_abs at.y)
  claim_place = rw (column_is, line_is) C.place

  module _ {r : Point} {q : List ℕ} (A : Aligns p w h at hd r q) where
    -- the pixel that is claimed
    same_pixel : (A.x ≡ C.x) × (A.y ≡ C.y)
    same_pixel = let a = pixel_in w h at.x at.y A.x A.y A.place in (ap nat_abs (sym a.0) ∙ column_is, ap nat_abs (sym a.1) ∙ line_is)

    pub claim_paints : Paints p w h C.x C.y 3 q
    claim_paints = rw (← same_pixel.0, ← same_pixel.1) A.paint

    point_found : r ≡ (folded (by_ends left_most_sees) (left_most_from hd (point_at C.x C.y)) (rows_met p w h C.x C.y 3)).best.place
    point_found = rw (← same_pixel.0, ← same_pixel.1, ← (point_is w h at A.x A.y A.place)) A.is

    -- the point is a pixel of the piece, and none of its pixels lies farther to the left
    pub point_farthest : Highest (Piece p w h C.x C.y) (left_of hd) r
    point_farthest = rw point_found (left_most_farthest (can_fill can_claim) hd)

    pub point_within_picture : Within r
    point_within_picture = highest_within p both_sides point_farthest

    -- where the place is not white, no pixel turns white, and none that is white another colour
    pub claim_white : (px p w C.x C.y ≡ 0 → ⊥) → SameWhite w h p q
    claim_white dark = paint_white dark (omega arith) claim_paints

  -- the point and the picture are determined
  pub claim_determined : {r s : Point} {q m : List ℕ} → Aligns p w h at hd r q → Aligns p w h at hd s m → (r ≡ s) × (q ≡ m)
  claim_determined A B = (point_found A ∙ sym (point_found B), paints_unique C.roomy.sized.whole on.2 (claim_paints A) (claim_paints B))

-- a place that the search answers can be claimed
unfoldable pub sighted_claimable : {q : List ℕ} {w h lent : ℕ} {at hd : Point} → Roomy w h (length q) lent → Sighted q w h at → Direction hd → Claimable q w h lent at hd
sighted_claimable {w = w} {h = h} R S D =
    record { roomy = R; x = S.x; y = S.y; place = rw S.is (on_picture_lem w h S.x S.y S.in_x S.in_y); other = λ e. omega (arith, S.shows); line = D }
