-- A search never finds more than 64 stones: the one that would be the 65th is refused (11). Assumes nothing.
use Prim.Native.Nat.{ℕ, ◌+◌, ◌≤◌}
use native.Mathlib.Omega.{arith}
use mathlib.Core.Path.{◌≡◌, refl, sym, ap, ◌∙◌}
use mathlib.Core.Bool.{Bool, true, false, not, cond}
use mathlib.Core.List.{List, [], ◌∷◌}
use lib.Dec.{leb}
use lib.ListN.{length, length-append}
use borrow.Author.Tests.{leb-false}
use Rattle.refusals.specs.Limits.{most_stones}
use Rattle.refusals.specs.Finding.{Finding, found, refused, refused_by}
use Rattle.refusals.specs.declared.Refusal.TheVariants as refusal
use Rattle.points.specs.declared.Point.{Point}
use Rattle.geometry.specs.Create.{sight_of}
use Rattle.geometry.specs.Map.{mapped}
use Rattle.geometry.specs.declared.Perspective.{Perspective}
use Rattle.geometry.specs.declared.Sight.{Sight}
use Rattle.geometry.specs.declared.Sight.TheVariants.{Made, Flat}
use Rattle.stated.specs.Stated.{near}
use Rattle.corners.specs.declared.all_corners.AllCornerFinder.{AllCornerFinder}
use Rattle.table.specs.declared.Table.{Table}
use Rattle.scanner.specs.declared.LinePosition.{LinePosition}
use Rattle.capstones.specs.Modules.{seven, middle}
use Rattle.capstones.specs.declared.CapStone.{CapStone}
use Rattle.marks.specs.Stone.{stone, placed_stone, centred_stone, seen_stone, stone_of}
use Rattle.marks.specs.Search.{Tries, no_ring, ring, Place, Searches, finished, tried, stopped}

-- stones that are told: one, where it has room
one_told : (far full : Bool) (s : CapStone) (k : List CapStone) → cond far (refused_by refusal.Far) (cond full (refused_by refusal.Stones) (found (s ∷ []))) ≡ found k → (full ≡ false) × (length k ≡ 1)
one_told true full s k e = let z : ◌≡◌ {A = ℕ} 0 1 = cc in absurd (omega arith)
one_told false true s k e = let z : ◌≡◌ {A = ℕ} 0 1 = cc in absurd (omega arith)
one_told false false s k e = let is : s ∷ [] ≡ k = cc in (refl, ap length (sym is))

none_told : (k : List CapStone) → found [] ≡ found k → length k ≡ 0
none_told k e = let is : [] ≡ k = cc in ap length (sym is)

module _ (n : ℕ) (k : List CapStone) (low : n ≤ most_stones) where
  placed_few : (p0 p1 p2 p3 : Point) (c : Perspective) (g : Finding Point) → placed_stone p0 p1 p2 p3 c n g ≡ found k → n + length k ≤ most_stones
  unfolding placed_stone
  placed_few p0 p1 p2 p3 c (found center) e =
      let t = one_told (not (near center)) (leb most_stones n) (stone p0 p1 p2 p3 center c) k e in
      let room = leb-false most_stones n t.0 in
      omega (arith, t.1)
  placed_few p0 p1 p2 p3 c (refused why) e = let z : ◌≡◌ {A = ℕ} 0 1 = cc in absurd (omega arith)

  seen_few : (p0 p1 p2 p3 : Point) (s : Sight) → seen_stone p0 p1 p2 p3 n s ≡ found k → n + length k ≤ most_stones
  unfolding seen_stone centred_stone
  seen_few p0 p1 p2 p3 (Made c) e = placed_few p0 p1 p2 p3 c (mapped c middle middle) e
  seen_few p0 p1 p2 p3 Flat e = omega (arith, none_told k e)

  stone_few : (f : AllCornerFinder) → stone_of f n ≡ found k → n + length k ≤ most_stones
  unfolding stone_of
  stone_few f e = seen_few f.ahead.place f.right.place f.behind.place f.left.place (sight_of f.ahead.place f.right.place f.behind.place f.left.place seven seven) e

tries_few : {p : List ℕ} {w h y : ℕ} {cut : LinePosition} {T : Table} {n : ℕ} {f : Finding (List CapStone)} {q : List ℕ} {U : Table}
    → n ≤ most_stones → Tries p w h y cut T n f q U → (k : List CapStone) → f ≡ found k → n + length k ≤ most_stones
tries_few low (no_ring X e) k g = omega (arith, none_told k (sym e ∙ g))
tries_few {n = n} low (ring m X K) k g = stone_few n k low K.corners (sym K.is ∙ g)

search_few : {w h : ℕ} {places : List Place} {p : List ℕ} {T : Table} {l : List CapStone} {f : Finding (List CapStone)} {q : List ℕ} {U : Table}
    → length l ≤ most_stones → Searches w h places p T l f q U → (k : List CapStone) → f ≡ found k → length k ≤ most_stones
search_few {l = l} low finished k e = let is : l ≡ k = cc in omega (arith, ap length is)
search_few {l = l} low (tried {new = new} X S) k e = search_few (omega (arith, length-append l new, tries_few low X new refl)) S k e
search_few low (stopped X) k e = let z : ◌≡◌ {A = ℕ} 0 1 = cc in absurd (omega arith)

-- "arrays of 64 stones" are long enough
pub stones_few : {w h : ℕ} {places : List Place} {p : List ℕ} {T : Table} {l : List CapStone} {q : List ℕ} {U : Table} → Searches w h places p T [] (found l) q U → length l ≤ most_stones
stones_few {l = l} S = search_few (omega arith) S l refl
