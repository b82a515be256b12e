-- What the search leaves: the picture's length, a sound table, white what was white; and where it answers, a pixel that no claim has taken. Assumes nothing.
use Rattle.std.specs.Prelude.{Result, Ok}
use Rattle.refusals.specs.declared.Refusal.{Refusal}
use Prim.Native.Nat.{ℕ, ◌≤◌, ◌<◌}
use native.Mathlib.Nat.{le_refl}
use native.Mathlib.Omega.{arith}
use mathlib.Core.Path.{◌≡◌, refl, ap, ◌∙◌}
use mathlib.Core.List.{List, [], ◌∷◌}
use lib.ListN.{length}
use Rattle.refusals.specs.Finding.{Finding, found}
use Rattle.picture.specs.Sides.{Roomy}
use Rattle.points.specs.Range.{Within}
use Rattle.points.specs.declared.Point.{Point}
use Rattle.pieces.specs.Picture.{px}
use Rattle.table.specs.declared.Table.{Table}
use Rattle.table.proofs.Kept.{Proper}
use Rattle.regions.specs.Found.{Answer}
use Rattle.regions.specs.Lookup.{Looks, at_claimed, at_known, at_fresh, at_again}
use Rattle.regions.proofs.Twice.{seed_shows}
use Rattle.corners.specs.Rows.{point_at}
use Rattle.corners.proofs.Small.{point_within}
use Rattle.alignment.specs.Visit.{visit_of, white, not_listed, looked, Visits, beside, at_pixel}
use Rattle.alignment.specs.Search.{Spirals, too_far, moves, stays, here, stops}
use Rattle.alignment.specs.declared.spiral.Pass.{Pass}
use Rattle.alignment.specs.declared.visit.Visit.{Visit}
use Rattle.alignment.specs.declared.visit.Visit.TheVariants.{Stays, Here}
use Rattle.alignment.proofs.Places.{pixel_in}
use Rattle.alignment.proofs.Kept.{Kept, kept_on, kept_still}
use Rattle.alignment.proofs.Visiting.{visit_keeps}
use Rattle.alignment.proofs.Spiralling.{still_roomy}

pub search_keeps : {w h estimate : ℕ} {s : Pass} {at : Point} {p : List ℕ} {lent : ℕ} {T : Table} {f : Finding (List Point)} {q : List ℕ} {U : Table}
    → Roomy w h (length p) lent → Proper T w h → Spirals w h estimate s at p T f q U → Kept p w h q U
search_keeps R P (too_far far) = kept_still P refl refl
search_keeps {lent = lent} R P (moves low X S) = let K = visit_keeps R P X in kept_on K (search_keeps (still_roomy R K.len (le_refl lent)) K.proper S)
search_keeps {lent = lent} R P (stays low X S) = let K = visit_keeps R P X in kept_on K (search_keeps (still_roomy R K.len (le_refl lent)) K.proper S)
search_keeps R P (here low X) = visit_keeps R P X
search_keeps R P (stops low X) = visit_keeps R P X

-- the point is a pixel of the picture that shows a number: it is neither white nor claimed
pub record Sighted (q : List ℕ) (w h : ℕ) (at : Point) : Type 0 where
  pub x : ℕ
  pub y : ℕ
  pub is : at ≡ point_at x y
  pub in_x : x < w
  pub in_y : y < h
  pub shows : 5 ≤ px q w x y

-- a lookup that makes its place the answer shows a number there
look_shows : {p : List ℕ} {w h : ℕ} {T : Table} (estimate : ℕ) {x y : ℕ} {a : Answer} {q : List ℕ} {U : Table} → x < w → y < h → Ok Here ≡ visit_of estimate a → Looks p w h x y T a q U → 5 ≤ px q w x y
unfolding visit_of
look_shows estimate hx hy e (at_claimed C) = let s : Ok Here ≡ Ok Stays = e ∙ ap (visit_of estimate) C.answer in let z : ◌≡◌ {A = ℕ} 0 1 = cc in absurd (omega arith)
look_shows {w = w} estimate {x = x} {y = y} hx hy e (at_known K) = omega (arith, ap (λ (v : List ℕ). px v w x y) K.picture, K.shows)
look_shows estimate hx hy e (at_fresh F) = omega (arith, seed_shows hx hy F.paint)
look_shows estimate hx hy e (at_again G) = omega (arith, seed_shows hx hy G.paint)

visit_sights : {p : List ℕ} {w h : ℕ} {T : Table} {estimate : ℕ} {at : Point} {v : Result Visit Refusal} {q : List ℕ} {U : Table} → Ok Here ≡ v → Visits p w h T estimate at v q U → Sighted q w h at
visit_sights g (beside o e s t) = let z : ◌≡◌ {A = ℕ} 0 1 = cc in absurd (omega arith)
visit_sights g (at_pixel x y o (white z e s t)) = let z : ◌≡◌ {A = ℕ} 0 1 = cc in absurd (omega arith)
visit_sights g (at_pixel x y o (not_listed d u e s t)) = let z : ◌≡◌ {A = ℕ} 0 1 = cc in absurd (omega arith)
visit_sights {w = w} {h = h} {estimate = estimate} {at = at} g (at_pixel x y o (looked d u a L e)) =
    let i = pixel_in w h at.x at.y x y o in
    let ex = i.0 in
    let ey = i.1 in
    record { x = x; y = y; is = λ k. record { x = ex k; y = ey k }; in_x = i.2; in_y = i.3; shows = look_shows estimate i.2 i.3 (g ∙ e) L }

pub search_sights : {w h estimate : ℕ} {s : Pass} {at : Point} {p : List ℕ} {T : Table} {f : Finding (List Point)} {q : List ℕ} {U : Table} {place : Point}
    → f ≡ found (place ∷ []) → Spirals w h estimate s at p T f q U → Sighted q w h place
search_sights e (too_far far) = let z : ◌≡◌ {A = ℕ} 0 1 = cc in absurd (omega arith)
search_sights e (moves low X S) = search_sights e S
search_sights e (stays low X S) = search_sights e S
search_sights {w} {h} {at = at} {q = q} {place = place} e (here low X) = let same : place ≡ at = cc in rw same (visit_sights refl X)
search_sights e (stops low X) = let z : ◌≡◌ {A = ℕ} 0 1 = cc in absurd (omega arith)

pub sighted_within : {q : List ℕ} {w h lent : ℕ} {at : Point} → Roomy w h (length q) lent → Sighted q w h at → Within at
sighted_within R S = rw S.is (point_within (omega (arith, S.in_x, R.sized.wide)) (omega (arith, S.in_y, R.sized.tall)))
