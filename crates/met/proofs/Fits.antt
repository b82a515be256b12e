-- What a fit meets: 10, and 12 to 15. Assumes nothing.
use Rattle.std.specs.Prelude.{Ok, Err}
use Prim.Native.Nat.{ℕ}
use native.Mathlib.Omega.{arith}
use mathlib.Core.Path.{◌≡◌, sym, subst}
use mathlib.Core.Bool.{Bool, true, false, cond}
use mathlib.Core.List.{List, [], ◌∷◌}
use Rattle.refusals.specs.Numbers.{number_of}
use Rattle.refusals.specs.Finding.{Finding, found, refused}
use Rattle.refusals.specs.declared.Refusal.{Refusal}
use Rattle.refusals.specs.declared.Refusal.TheVariants as refusal
use Rattle.points.specs.declared.Point.{Point}
use Rattle.table.specs.declared.Table.{Table}
use Rattle.regions.specs.Found.{Answer, claimed, unclaimed}
use Rattle.groups.specs.declared.CapStoneGroup.{CapStoneGroup}
use Rattle.alignment.specs.Visit.{size_like, visit_of, VisitsPixel, white, not_listed, looked, Visits, beside, at_pixel}
use Rattle.alignment.specs.Search.{Spirals, too_far, moves, stays, here, stops}
use Rattle.alignment.specs.declared.spiral.Pass.{Pass}
use Rattle.alignment.specs.declared.visit.Visit.TheVariants as visit
use Rattle.grids.specs.declared.SkewedGridLocation.{SkewedGridLocation}
use Rattle.outline.specs.declared.Outline.{Outline}
use Rattle.fourth_corner.specs.Corner as corner
use Rattle.fourth_corner.specs.Corner.{Takes, Corners}
use Rattle.fit.specs.Fit.{located_by, Fits, not_outlined, apart, outlined}
use Rattle.met.specs.Met.{OnTheWay, Met}
use Rattle.met.proofs.Points.{outline_met, estimate_met}
use Rattle.met.proofs.Scores.{grid_met}

-- what is met stays met under an equation
pub met_is : {A : Type 0} {f g : Finding A} → f ≡ g → Met g → Met f
met_is e m = subst Met (sym e) m

pub met_same : {A B : Type 0} {f : Finding A} {g : Finding B} {n : ℕ} → f ≡ refused n → g ≡ refused n → Met f → Met g
met_same {n = n} e d m = let r : OnTheWay n = subst Met e m in met_is d r

-- ---- a visit is refused by 10 alone
not_looked : (estimate : ℕ) (a : Answer) (why : Refusal) → Err why ≡ visit_of estimate a → ⊥
unfolding visit_of
not_looked estimate (claimed colour) why e = let z : ◌≡◌ {A = ℕ} 0 1 = cc in omega arith
not_looked estimate (unclaimed r) why e = go (size_like estimate r.entry.px) e
  where
    go : (t : Bool) → Err why ≡ cond t (Ok visit.Here) (Ok visit.Moves) → ⊥
    go true d = let z : ◌≡◌ {A = ℕ} 0 1 = cc in omega arith
    go false d = let z : ◌≡◌ {A = ℕ} 0 1 = cc in omega arith

pixel_met : {p : List ℕ} {w h : ℕ} {T : Table} {estimate x y : ℕ} {q : List ℕ} {U : Table} (why : Refusal) → VisitsPixel p w h T estimate x y (Err why) q U → OnTheWay (number_of why)
pixel_met why (white o e a b) = let z : ◌≡◌ {A = ℕ} 0 1 = cc in absurd (omega arith)
pixel_met why (not_listed o l e a b) = let one : refusal.Number ≡ why = cc in subst (λ (r : Refusal). OnTheWay (number_of r)) one (omega arith, omega arith)
pixel_met {estimate = estimate} why (looked o l a k e) = absurd (not_looked estimate a why e)

visit_met : {p : List ℕ} {w h : ℕ} {T : Table} {estimate : ℕ} {at : Point} {q : List ℕ} {U : Table} (why : Refusal) → Visits p w h T estimate at (Err why) q U → OnTheWay (number_of why)
visit_met why (beside o e a b) = let z : ◌≡◌ {A = ℕ} 0 1 = cc in absurd (omega arith)
visit_met why (at_pixel x y o X) = pixel_met why X

spirals_met : {w h estimate : ℕ} {s : Pass} {at : Point} {p : List ℕ} {T : Table} {f : Finding (List Point)} {q : List ℕ} {U : Table} → Spirals w h estimate s at p T f q U → Met f
spirals_met (too_far o) = tt
spirals_met (moves o X S) = spirals_met S
spirals_met (stays o X S) = spirals_met S
spirals_met (here o X) = tt
spirals_met (stops {why = why} o X) = visit_met why X

-- ---- the fourth corner, then the grid
takes_met : {m : List ℕ} {w h : ℕ} {hd : Point} {sight f : Finding (List Point)} {q : List ℕ} → Met sight → Takes m w h hd sight f q → Met f
takes_met k (corner.nowhere e d is) = met_is d tt
takes_met k (corner.stopped n e d is) = met_same e d k
takes_met k (corner.claimed at point e A d) = met_is d tt

corners_met : {p : List ℕ} {w h : ℕ} {T : Table} {o : Outline} {f : Finding (List Point)} {q : List ℕ} {U : Table} → Corners p w h T o f q U → Met f
corners_met (corner.plain low e is same) = met_is e tt
corners_met {o = o} (corner.unguessed high n e d is same) = met_same e d (estimate_met o.group.first.c o.group.third.c o.corner)
corners_met (corner.sought high estimate e S) = takes_met (spirals_met S.spirals) S.takes

located_met : (q : List ℕ) (w h : ℕ) (o : Outline) (f : Finding (List Point)) → Met f → Met (located_by q w h o f)
unfolding located_by
located_met q w h o (found (point ∷ more)) m = grid_met q w h o.size o.group.second.corner0 o.group.third.corner0 point o.group.first.corner0
located_met q w h o (found []) m = tt
located_met q w h o (refused n) m = m

pub fits_met : {p : List ℕ} {w h : ℕ} {T : Table} {g : CapStoneGroup} {f : Finding (List SkewedGridLocation)} {q : List ℕ} {U : Table} → Fits p w h T g f q U → Met f
fits_met {p} {w} {h} {g = g} (not_outlined n e d is same) = met_same e d (outline_met p w h g)
fits_met (apart e d is same) = met_is d tt
fits_met {w = w} {h = h} {q = q} (outlined o e C) = met_is C.is (located_met q w h o C.corner (corners_met C.corners))
