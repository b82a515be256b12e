-- Determined: two outcomes that the contract of a search allows coincide. Assumes nothing.
use Prim.Native.Nat.{ℕ}
use native.Mathlib.Omega.{arith}
use mathlib.Core.Path.{◌≡◌, refl, sym, ap, ◌∙◌, subst}
use mathlib.Core.Bool.{Bool, ◌&&◌}
use mathlib.Core.List.{List, [], ◌++◌}
use mathlib.Core.Logic.{inl, inr}
use lib.Dec.{eqb}
use Rattle.refusals.specs.Limits.{most_stones}
use Rattle.refusals.specs.Finding.{Finding, found, refused}
use Rattle.laid.proofs.Same.{laid_same}
use Rattle.pieces.specs.Picture.{px}
use Rattle.pieces.specs.Count.{Mem}
use Rattle.pieces.proofs.Paints.{paints_unique}
use Rattle.fill.specs.Order.{rows_met}
use Rattle.fill.specs.Fold.{folded}
use Rattle.corners.specs.Rows.{point_at, by_ends}
use Rattle.corners.specs.Finders.{all_corners_from, all_corners_see}
use Rattle.corners.specs.declared.all_corners.AllCornerFinder.{AllCornerFinder}
use Rattle.table.specs.declared.Table.{Table}
use Rattle.regions.specs.Found.{Answer}
use Rattle.regions.specs.Tests.{Lookable}
use Rattle.regions.specs.Lookup.{Looks, answers}
use Rattle.regions.proofs.Accepted.{lookable_passes}
use Rattle.regions.proofs.Unique.{Alike, post_unique}
use Rattle.scanner.specs.declared.LinePosition.{LinePosition}
use Rattle.capstones.specs.Blank.{no_stone}
use Rattle.capstones.specs.declared.CapStone.{CapStone}
use Rattle.marks.specs.InWork.{InWork, AtCut}
use Rattle.marks.specs.Ring.{paired, Tests}
use Rattle.marks.specs.Stone.{stone_of, first_corner, Ringed, Rings, Creates}
use Rattle.marks.specs.Search.{Tries, no_ring, ring, Place, all_cuts, Searches, finished, tried, stopped, outcome, Laid}
use Rattle.marks.specs.OfBitmap.{OfBitmap, refuses, searches}
use Rattle.marks.specs.declared.search.Marks.{Marks}
use Rattle.marks.proofs.Cut.{ring_lookable, stone_lookable, tests_ringed}
use Rattle.marks.proofs.Searching.{Stands, still_dark, tries_go}
use Rattle.marks.proofs.Whole.{all_stand}
use Rattle.marks.proofs.Begin.{begins_work}

looks_same : {p : List ℕ} {w h lent : ℕ} {T : Table} {x y : ℕ} → Lookable p w h lent T x y → {a b : Answer} {q r : List ℕ} {U Z : Table} → Looks p w h x y T a q U → Looks p w h x y T b r Z → Alike a q U b r Z
looks_same {p} {w} {h} {lent} {T} {x} {y} L {a} {b} X Y =
    let s = lookable_passes p w h lent T x y L in
    let e = post_unique (answers a refl s X) (answers b refl s Y) in
    let is : a ≡ b = only a b e.0 in
    (is, e.1, e.2)
  where
    only : (a b : Answer) → found a ≡ found b → a ≡ b
    only a b e = cc

module _ {p : List ℕ} {w h lent : ℕ} {T : Table} {y : ℕ} {cut : LinePosition} (C : AtCut p w h lent T y cut) where
  tests_same : {v t : Bool} {q r : List ℕ} {U Z : Table} → Tests p w h y cut T v q U → Tests p w h y cut T t r Z → Alike v q U t r Z
  tests_same {v} {t} {q} {r} {U} {Z} X Y =
      let first = looks_same (ring_lookable C) X.ring_first Y.ring_first in
      let then : Looks X.between w h cut.stone y X.among Y.stone r Z =
      subst (λ (m : List ℕ). Looks m w h cut.stone y X.among Y.stone r Z) (sym first.1)
      (subst (λ (M : Table). Looks Y.between w h cut.stone y M Y.stone r Z) (sym first.2) Y.stone_then) in
      let second = looks_same (stone_lookable C {room = lent} (omega arith) (X.ring, refl, X.ring_first)) X.stone_then then in
      let verdict : List ℕ → Answer → Answer → Bool = λ m a b. eqb (px m w cut.left y) (px m w cut.right y) && paired (found a) (found b) in
      (X.is ∙ ap (λ (m : List ℕ). verdict m X.ring X.stone) second.1 ∙ ap (λ (a : Answer). verdict r a X.stone) first.0 ∙ ap (λ (b : Answer). verdict r Y.ring b) second.0 ∙ sym Y.is, second.1, second.2)

rings_same : {p : List ℕ} {w h lent x y : ℕ} → Ringed p w h lent x y → {f g : AllCornerFinder} {q r : List ℕ} → Rings p w h x y f q → Rings p w h x y g r → (f ≡ g) × (q ≡ r)
rings_same {p} {w} {h} {lent} {x} {y} R {f} {g} {q} {r} F G =
    let size = R.seeded.sized.whole in
    let m : F.between ≡ G.between = paints_unique size R.seeded.in_x F.four G.four in
    let corners : List ℕ → AllCornerFinder = λ v. folded (by_ends all_corners_see) (all_corners_from (point_at x y) (first_corner p w h x y)) (rows_met v w h x y 2) in
    (F.are ∙ ap corners m ∙ sym G.are, paints_unique (F.four.len ∙ size) R.seeded.in_x F.two (rw (← m) at G.two))

creates_same : {p : List ℕ} {w h lent x y n : ℕ} → Ringed p w h lent x y → {f g : Finding (List CapStone)} {q r : List ℕ} → Creates p w h x y n f q → Creates p w h x y n g r → (f ≡ g) × (q ≡ r)
creates_same {n = n} R K L = let e = rings_same R K.rings L.rings in (K.is ∙ ap (λ (c : AllCornerFinder). stone_of c n) e.0 ∙ sym L.is, e.1)

module _ {p : List ℕ} {w h lent : ℕ} {T : Table} {y : ℕ} {cut : LinePosition} {n : ℕ} (C : AtCut p w h lent T y cut) where
  tries_same : {f g : Finding (List CapStone)} {q r : List ℕ} {U Z : Table} → Tries p w h y cut T n f q U → Tries p w h y cut T n g r Z → Alike f q U g r Z
  tries_same (no_ring X e) (no_ring Y g) = let s = tests_same C X Y in (e ∙ sym g, s.1, s.2)
  tries_same (no_ring X e) (ring m Y K) = let s = tests_same C X Y in let z : ◌≡◌ {A = ℕ} 0 1 = cc in absurd (omega arith)
  tries_same (ring m X K) (no_ring Y g) = let s = tests_same C X Y in let z : ◌≡◌ {A = ℕ} 0 1 = cc in absurd (omega arith)
  tries_same {f} {g} {q} {r} (ring m X K) (ring k Y L) =
      let s = tests_same C X Y in
      let L' : Creates m w h cut.right y n g r = subst (λ (v : List ℕ). Creates v w h cut.right y n g r) (sym s.1) L in
      let e = creates_same (tests_ringed C {room = lent} (omega arith) X) K L' in
      (e.0, e.1, s.2)

same_stones : (k l : List CapStone) → found k ≡ found l → k ≡ l
same_stones k l e = cc

search_same : {w h lent : ℕ} {places : List Place} {p : List ℕ} {T : Table} {l : List CapStone} {f g : Finding (List CapStone)} {q r : List ℕ} {U Z : Table}
    → InWork p w h lent T → ((at : Place) → Mem at places → Stands p w h at) → Searches w h places p T l f q U → Searches w h places p T l g r Z → Alike f q U g r Z
search_same W each finished finished = (refl, refl, refl)
search_same {w = w} {h = h} {lent = lent} {l = l} {g = g} {r = r} {Z = Z} W each (tried {at = at} {more = more} {new = new} {m = m} {Between = B} X S) (tried {new = other} {m = k} {Between = D} Y R) =
    let A = each at (inl refl) in
    let C : AtCut _ w h lent _ at.line at.cut = record { work = W; in_y = A.in_y; columns = A.columns } in
    let s = tries_same C X Y in
    let G = tries_go {room = lent} C (omega arith) X in
    let stones : other ≡ new = sym (same_stones new other s.0) in
    let R1 : Searches w h more k D (l ++ new) g r Z = subst (λ (v : List CapStone). Searches w h more k D (l ++ v) g r Z) stones R in
    let R2 : Searches w h more m D (l ++ new) g r Z = subst (λ (v : List ℕ). Searches w h more v D (l ++ new) g r Z) (sym s.1) R1 in
    let R3 : Searches w h more m B (l ++ new) g r Z = subst (λ (v : Table). Searches w h more m v (l ++ new) g r Z) (sym s.2) R2 in
    search_same G.work (λ o i. let O = each o (inr i) in record { in_y = O.in_y; columns = still_dark (G.alike _) O.columns }) S R3
search_same W each (tried {at = at} X S) (stopped Y) =
    let A = each at (inl refl) in
    let s = tries_same (record { work = W; in_y = A.in_y; columns = A.columns }) X Y in
    let z : ◌≡◌ {A = ℕ} 0 1 = cc in absurd (omega arith)
search_same W each (stopped {at = at} X) (tried Y R) =
    let A = each at (inl refl) in
    let s = tries_same (record { work = W; in_y = A.in_y; columns = A.columns }) X Y in
    let z : ◌≡◌ {A = ℕ} 0 1 = cc in absurd (omega arith)
search_same W each (stopped {at = at} X) (stopped Y) = let A = each at (inl refl) in tries_same (record { work = W; in_y = A.in_y; columns = A.columns }) X Y

-- marks of one outcome and one table are the same
same_marks : (s t : Marks) → outcome s ≡ outcome t → s.table ≡ t.table → Laid s → Laid t → s ≡ t
same_marks s t e table X Y =
    let same = laid_same most_stones no_stone e X Y in
    λ i. record { stones = same.2 i; n = same.1 i; table = table i; verdict = same.0 i }

-- what a search comes to, the picture and the table are determined
pub searches_same : {p : List ℕ} {w h lent : ℕ} {T : Table} {f g : Finding (List CapStone)} {q r : List ℕ} {U Z : Table}
    → InWork p w h lent T → Searches w h (all_cuts p w h) p T [] f q U → Searches w h (all_cuts p w h) p T [] g r Z → Alike f q U g r Z
searches_same {p} {w} {h} W X Y = search_same W (all_stand p w h) X Y

-- and so are the marks in their array
pub marks_determined : {p : List ℕ} {w h lent : ℕ} {T : Table} {q r : List ℕ} (s t : Marks) → InWork p w h lent T
    → Searches w h (all_cuts p w h) p T [] (outcome s) q s.table × Laid s → Searches w h (all_cuts p w h) p T [] (outcome t) r t.table × Laid t → (s ≡ t) × (q ≡ r)
marks_determined s t W X Y =
    let e = searches_same W X.0 Y.0 in
    (same_marks s t e.0 e.2 X.1 Y.1, e.1)

-- and so they are for any bitmap that a caller hands over
pub bitmap_determined : {p : List ℕ} {w h lent : ℕ} {q r : List ℕ} (s t : Marks) → OfBitmap p w h lent q s → OfBitmap p w h lent r t → (s ≡ t) × (q ≡ r)
bitmap_determined s t (refuses n e same is table laid) (refuses m f same' is' table' laid') =
    let one : n ≡ m = cc in
    (same_marks s t (is ∙ ap refused one ∙ sym is') (table ∙ sym table') laid laid', same ∙ sym same')
bitmap_determined s t (refuses n e same is table laid) (searches f S laid') = let z : ◌≡◌ {A = ℕ} 0 1 = cc in absurd (omega arith)
bitmap_determined s t (searches e S laid) (refuses m f same' is' table' laid') = let z : ◌≡◌ {A = ℕ} 0 1 = cc in absurd (omega arith)
bitmap_determined {p} {w} {h} {lent} s t (searches e S laid) (searches f R laid') = marks_determined s t (begins_work p w h lent e) (S, laid) (R, laid')
