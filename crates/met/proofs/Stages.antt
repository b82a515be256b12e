-- What the search for marks, the groupings, the final pass and the bounds meet. Assumes nothing.
use Prim.Native.Nat.{ℕ}
use native.Mathlib.Omega.{arith}
use mathlib.Core.Bool.{Bool, true, false, not, cond}
use mathlib.Core.List.{List, [], ◌∷◌}
use lib.Dec.{leb}
use Rattle.refusals.specs.Limits.{most_stones}
use Rattle.refusals.specs.Finding.{Finding, found, refused, refused_by}
use Rattle.refusals.specs.declared.Refusal.TheVariants as refusal
use Rattle.points.specs.declared.Point.{Point}
use Rattle.geometry.specs.Create.{sight_of}
use Rattle.geometry.specs.Map.{mapped}
use Rattle.geometry.specs.declared.Perspective.{Perspective}
use Rattle.geometry.specs.declared.Sight.{Sight}
use Rattle.geometry.specs.declared.Sight.TheVariants.{Made, Flat}
use Rattle.stated.specs.Stated.{near}
use Rattle.corners.specs.declared.all_corners.AllCornerFinder.{AllCornerFinder}
use Rattle.table.specs.declared.Table.{Table}
use Rattle.scanner.specs.declared.LinePosition.{LinePosition}
use Rattle.capstones.specs.Modules.{seven, middle}
use Rattle.capstones.specs.declared.CapStone.{CapStone}
use Rattle.marks.specs.Stone.{placed_stone, centred_stone, seen_stone, stone_of}
use Rattle.marks.specs.Search.{Place, Tries, no_ring, ring, Searches, finished, tried, stopped}
use Rattle.grids.specs.declared.SkewedGridLocation.{SkewedGridLocation}
use Rattle.bounds.specs.Bounds.{with_bounds, nought, beyond, bounded_of}
use Rattle.groupings.specs.Groups.{after_trial, PairTried, passed_over, on_trial, PairsTried, no_pair_left, next_pair, pair_refused, CentreTried, used_before, with_pairs, CentresTried, no_centre_left, next_centre, centre_refused}
use Rattle.groupings.specs.declared.Trio.{Trio}
use Rattle.match_capstones.specs.declared.Pair.{Pair}
use Rattle.locations.specs.Pass as pass
use Rattle.locations.specs.Pass.{FitsAll}
use Rattle.met.specs.Met.{Met}
use Rattle.met.proofs.Points.{mapped_met}
use Rattle.met.proofs.Fits.{met_is, fits_met}

-- ---- the search for marks: 13, 12, 11
stone_met : (corners : AllCornerFinder) (n : ℕ) → Met (stone_of corners n)
unfolding stone_of seen_stone centred_stone placed_stone
stone_met corners n =
    let p0 = corners.ahead.place in
    let p1 = corners.right.place in
    let p2 = corners.behind.place in
    let p3 = corners.left.place in
    sees p0 p1 p2 p3 (sight_of p0 p1 p2 p3 seven seven)
  where
    tests : (far many : Bool) (s : CapStone) → Met (cond far (refused_by refusal.Far) (cond many (refused_by refusal.Stones) (found (s ∷ []))))
    tests true many s = (omega arith, omega arith)
    tests false true s = (omega arith, omega arith)
    tests false false s = tt

    places : (p0 p1 p2 p3 : Point) (c : Perspective) (f : Finding Point) → Met f → Met (placed_stone p0 p1 p2 p3 c n f)
    places p0 p1 p2 p3 c (found center) m = tests (not (near center)) (leb most_stones n) _
    places p0 p1 p2 p3 c (refused why) m = m

    sees : (p0 p1 p2 p3 : Point) (v : Sight) → Met (seen_stone p0 p1 p2 p3 n v)
    sees p0 p1 p2 p3 (Made c) = places p0 p1 p2 p3 c (mapped c middle middle) (mapped_met c middle middle)
    sees p0 p1 p2 p3 Flat = tt

tries_met : {p : List ℕ} {w h y : ℕ} {cut : LinePosition} {T : Table} {n : ℕ} {f : Finding (List CapStone)} {q : List ℕ} {U : Table} → Tries p w h y cut T n f q U → Met f
tries_met (no_ring R e) = met_is e tt
tries_met {n = n} (ring m R C) = met_is C.is (stone_met C.corners n)

pub search_met : {w h : ℕ} {cuts : List Place} {p : List ℕ} {T : Table} {l : List CapStone} {f : Finding (List CapStone)} {q : List ℕ} {U : Table} → Searches w h cuts p T l f q U → Met f
search_met finished = tt
search_met (tried X S) = search_met S
search_met (stopped X) = tries_met X

-- ---- the groupings
trial_met : (groups : List Trio) (t : Trio) (f : Finding (List SkewedGridLocation)) → Met f → Met (after_trial groups t f)
unfolding after_trial
trial_met groups t (found []) m = tt
trial_met groups t (found (grid ∷ more)) m = tt
trial_met groups t (refused n) m = m

module _ {p : List ℕ} {w h : ℕ} {T : Table} {stones : List CapStone} where
  pair_met : {idx : ℕ} {pair : Pair} {groups : List Trio} {f : Finding (List Trio)} → PairTried p w h T stones idx pair groups f → Met f
  pair_met (passed_over u e) = met_is e tt
  pair_met {groups = groups} (on_trial u fit X e) = met_is e (trial_met groups _ fit (fits_met X.fits))

  pairs_met : {idx : ℕ} {pairs : List Pair} {groups : List Trio} {f : Finding (List Trio)} → PairsTried p w h T stones idx pairs groups f → Met f
  pairs_met no_pair_left = tt
  pairs_met (next_pair X S) = pairs_met S
  pairs_met (pair_refused X) = pair_met X

  centre_met : {idx : ℕ} {groups : List Trio} {f : Finding (List Trio)} → CentreTried p w h T stones idx groups f → Met f
  centre_met (used_before u e) = met_is e tt
  centre_met (with_pairs u X) = pairs_met X

  pub groups_met : {left idx : ℕ} {groups : List Trio} {f : Finding (List Trio)} → CentresTried p w h T stones left idx groups f → Met f
  groups_met no_centre_left = tt
  groups_met (next_centre X S) = groups_met S
  groups_met (centre_refused X) = centre_met X

-- ---- the final pass
pub pass_met : {w h : ℕ} {stones : List CapStone} {groups : List Trio} {p : List ℕ} {T : Table} {l : List SkewedGridLocation} {f : Finding (List SkewedGridLocation)} {q : List ℕ} {U : Table} → FitsAll w h stones groups p T l f q U → Met f
pass_met pass.finished = tt
pass_met (pass.fitted F S) = pass_met S
pass_met (pass.stopped F) = fits_met F

-- ---- the bounds: 13
pub bounds_met : (g : SkewedGridLocation) → Met (bounded_of g)
unfolding bounded_of with_bounds
bounds_met g =
    let s = beyond g.size in
    go (mapped g.c nought nought) (mapped g.c s nought) (mapped g.c s s) (mapped g.c nought s)
    (mapped_met g.c nought nought) (mapped_met g.c s nought) (mapped_met g.c s s) (mapped_met g.c nought s)
  where
    go : (b0 b1 b2 b3 : Finding Point) → Met b0 → Met b1 → Met b2 → Met b3 → Met (with_bounds g b0 b1 b2 b3)
    go (found p0) (found p1) (found p2) (found p3) k l m n = tt
    go (found p0) (found p1) (found p2) (refused r) k l m n = n
    go (found p0) (found p1) (refused r) b3 k l m n = m
    go (found p0) (refused r) b2 b3 k l m n = l
    go (refused r) b1 b2 b3 k l m n = k
