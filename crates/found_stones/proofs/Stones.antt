-- Every stone that the search finds has its corners in the picture and its centre within 10,000. Assumes nothing.
use Prim.Native.Nat.{ℕ, ◌*◌, ◌≤◌}
use native.Mathlib.Omega.{arith}
use mathlib.Core.Path.{◌≡◌, refl, sym, ◌∙◌, subst}
use mathlib.Core.Bool.{Bool, true, false, not, cond}
use mathlib.Core.List.{List, [], ◌∷◌}
use mathlib.Core.Logic.{inl, inr, ⊎_elim}
use lib.Dec.{leb}
use lib.IntN.{ℤ}
use borrow.Author.Tests.{not-false}
use Rattle.refusals.specs.Limits.{longest_side, most_stones}
use Rattle.refusals.specs.Finding.{Finding, found, refused, refused_by}
use Rattle.refusals.specs.declared.Refusal.TheVariants as refusal
use Rattle.points.specs.Range.{Within, Near}
use Rattle.points.specs.declared.Point.{Point}
use Rattle.geometry.specs.Create.{sight_of}
use Rattle.geometry.specs.Map.{mapped}
use Rattle.geometry.specs.declared.Perspective.{Perspective}
use Rattle.geometry.specs.declared.Sight.{Sight}
use Rattle.geometry.specs.declared.Sight.TheVariants.{Made, Flat}
use Rattle.stated.specs.Stated.{near}
use Rattle.stated.proofs.Reach.{near_is}
use Rattle.pieces.specs.Count.{Mem}
use Rattle.pieces.specs.Piece.{Piece}
use Rattle.pieces.proofs.Counting.{mem_either}
use Rattle.pieces.proofs.Chains.{last_of}
use Rattle.fill.proofs.Filling.{can_fill}
use Rattle.corners.specs.First.{Highest}
use Rattle.corners.specs.declared.all_corners.AllCornerFinder.{AllCornerFinder}
use Rattle.corners.proofs.Small.{point_within}
use Rattle.corners.proofs.Farthest.{all_corners_farthest}
use Rattle.table.specs.declared.Table.{Table}
use Rattle.scanner.specs.declared.LinePosition.{LinePosition}
use Rattle.capstones.specs.Modules.{seven, middle}
use Rattle.capstones.specs.declared.CapStone.{CapStone}
use Rattle.marks.specs.InWork.{InWork, AtCut}
use Rattle.marks.specs.Stone.{Ringed, Rings, first_corner, stone, placed_stone, centred_stone, seen_stone, stone_of}
use Rattle.marks.specs.Search.{Tries, no_ring, ring, Place, all_cuts, Searches, finished, tried, stopped}
use Rattle.marks.proofs.Cut.{tests_ringed}
use Rattle.marks.proofs.Fills.{fill_two}
use Rattle.marks.proofs.Searching.{Stands, tries_go, still_dark}
use Rattle.marks.proofs.Whole.{all_stand}
use Rattle.groups.specs.Group.{Framed}
use Rattle.found_stones.specs.Found.{PixelIn, FoundIn}

-- ---- corners: each is a pixel of the ring
pixel_in : (p : List ℕ) {w h x y : ℕ} {score : Point → ℤ} {q : Point} → Highest (Piece p w h x y) score q → PixelIn w h q
pixel_in p H = let k = last_of H.inside in record { column = H.column; line = H.line; is = H.is; in_x = k.0; in_y = k.1 }

-- the four corners found are pixels of the picture
record Cornered (w h : ℕ) (f : AllCornerFinder) : Type 0 where
  ahead : PixelIn w h f.ahead.place
  right : PixelIn w h f.right.place
  behind : PixelIn w h f.behind.place
  left : PixelIn w h f.left.place

rings_cornered : {p : List ℕ} {w h lent x y : ℕ} {f : AllCornerFinder} {q : List ℕ} → Ringed p w h lent x y → Rings p w h x y f q → Cornered w h f
rings_cornered {p} {w} {h} {lent} {x} {y} R F =
    let m = F.between in
    let W = all_corners_farthest (can_fill (fill_two R F.four {room = lent} (omega arith))) (first_corner p w h x y) in
    rw F.are (record { ahead = pixel_in m W.ahead; right = pixel_in m W.right; behind = pixel_in m W.behind; left = pixel_in m W.left })

-- ---- the stone of four corners
same_list : (l k : List CapStone) → found l ≡ found k → k ≡ l
same_list l k e = cc

-- a stone that is told passed the tests, and is the one that was made
passed : (far full : Bool) (l k : List CapStone) → cond far (refused_by refusal.Far) (cond full (refused_by refusal.Stones) (found l)) ≡ found k → (far ≡ false) × (k ≡ l)
passed true full l k e = let z : ◌≡◌ {A = ℕ} 0 1 = cc in absurd (omega arith)
passed false true l k e = let z : ◌≡◌ {A = ℕ} 0 1 = cc in absurd (omega arith)
passed false false l k e = (refl, (cc))

module _ {w h : ℕ} (f : AllCornerFinder) (C : Cornered w h f) (n : ℕ) (k : List CapStone) where
  abbrev p0 : Point
  p0 = f.ahead.place

  abbrev p1 : Point
  p1 = f.right.place

  abbrev p2 : Point
  p2 = f.behind.place

  abbrev p3 : Point
  p3 = f.left.place

  placed_found : (c : Perspective) (g : Finding Point) → placed_stone p0 p1 p2 p3 c n g ≡ found k → (s : CapStone) → Mem s k → FoundIn w h s
  unfolding placed_stone
  placed_found c (found center) e s m =
      let t = passed (not (near center)) (leb most_stones n) (stone p0 p1 p2 p3 center c ∷ []) k e in
      ⊎_elim
      (λ is.
      rw is
      (record {
        corner0 = C.ahead;
        corner1 = C.right;
        corner2 = C.behind;
        corner3 = C.left;
        near = near_is center (not-false _ t.0);
      }))
      (λ z. absurd z)
      (subst (Mem s) t.1 m)
  placed_found c (refused why) e s m = let z : ◌≡◌ {A = ℕ} 0 1 = cc in absurd (omega arith)

  seen_found : (s : Sight) → seen_stone p0 p1 p2 p3 n s ≡ found k → (t : CapStone) → Mem t k → FoundIn w h t
  unfolding seen_stone centred_stone
  seen_found (Made c) e t m = placed_found c (mapped c middle middle) e t m
  seen_found Flat e t m = absurd (subst (Mem t) (same_list [] k e) m)

  stone_found : stone_of f n ≡ found k → (s : CapStone) → Mem s k → FoundIn w h s
  unfolding stone_of
  stone_found e s m = seen_found (sight_of p0 p1 p2 p3 seven seven) e s m

-- ---- the search
-- what a cut adds
tries_found : {p : List ℕ} {w h lent : ℕ} {T : Table} {y : ℕ} {cut : LinePosition} {n : ℕ} {f : Finding (List CapStone)} {q : List ℕ} {U : Table}
    → AtCut p w h lent T y cut → Tries p w h y cut T n f q U → (k : List CapStone) → f ≡ found k → (s : CapStone) → Mem s k → FoundIn w h s
tries_found C (no_ring X e) k g s m = absurd (subst (Mem s) (same_list [] k (sym e ∙ g)) m)
tries_found {lent = lent} {n = n} C (ring m X K) k g s i =
    let R = tests_ringed C {room = lent} (omega arith) X in
    stone_found K.corners (rings_cornered R K.rings) n k (sym K.is ∙ g) s i

search_found : {w h lent : ℕ} {places : List Place} {p : List ℕ} {T : Table} {l : List CapStone} {f : Finding (List CapStone)} {q : List ℕ} {U : Table}
    → InWork p w h lent T → ((at : Place) → Mem at places → Stands p w h at) → ((s : CapStone) → Mem s l → FoundIn w h s) → Searches w h places p T l f q U
    → (k : List CapStone) → f ≡ found k → (s : CapStone) → Mem s k → FoundIn w h s
search_found {l = l} W each before finished k e s m = before s (subst (Mem s) (same_list l k e) m)
search_found {w = w} {h = h} {lent = lent} {l = l} W each before (tried {at = at} {new = new} X S) k e s m =
    let A = each at (inl refl) in
    let C : AtCut _ w h lent _ at.line at.cut = record { work = W; in_y = A.in_y; columns = A.columns } in
    let G = tries_go {room = lent} C (omega arith) X in
    search_found G.work
    (λ o i. let B = each o (inr i) in record { in_y = B.in_y; columns = still_dark (G.alike (o.line * w)) B.columns })
    (λ t i. ⊎_elim (λ j. before t j) (λ j. tries_found C X new refl t j) (mem_either l new t i))
    S k e s m
search_found W each before (stopped X) k e s m = let z : ◌≡◌ {A = ℕ} 0 1 = cc in absurd (omega arith)

pub stones_found : {p : List ℕ} {w h lent : ℕ} {T : Table} {l : List CapStone} {q : List ℕ} {U : Table}
    → InWork p w h lent T → Searches w h (all_cuts p w h) p T [] (found l) q U → (s : CapStone) → Mem s l → FoundIn w h s
stones_found {p} {w} {h} {l = l} W S s m = search_found W (all_stand p w h) (λ t z. absurd z) S l refl s m

-- ---- such a stone is framed: its corners are pixels of some picture
pixel_within : {w h : ℕ} → w ≤ longest_side → h ≤ longest_side → {p : Point} → PixelIn w h p → Within p
pixel_within wide tall P = rw P.is (point_within (omega (arith, P.in_x)) (omega (arith, P.in_y)))

pub found_framed : {w h : ℕ} → w ≤ longest_side → h ≤ longest_side → {s : CapStone} → FoundIn w h s → Framed s
found_framed wide tall F =
    record {
      corner0 = pixel_within wide tall F.corner0;
      corner1 = pixel_within wide tall F.corner1;
      corner2 = pixel_within wide tall F.corner2;
      corner3 = pixel_within wide tall F.corner3;
    }

-- so every stone found can stand in a group that is fitted
pub stones_framed : {p : List ℕ} {w h lent : ℕ} {T : Table} {l : List CapStone} {q : List ℕ} {U : Table}
    → InWork p w h lent T → Searches w h (all_cuts p w h) p T [] (found l) q U → (s : CapStone) → Mem s l → Framed s × Near s.center
stones_framed W S s m = let F = stones_found W S s m in (found_framed W.roomy.sized.wide W.roomy.sized.tall F, F.near)
