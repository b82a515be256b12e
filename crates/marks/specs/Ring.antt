-- The ring test at a cut: document 01, "Marks"; that the ring is looked up first is taken from the Rust. Definitions alone.
use Rattle.std.specs.Prelude.{ℕ, ◌<◌, ◌≤◌, ◌≡◌, Bool, false, not, ◌&&◌, List, eqb, length}
use Rattle.refusals.specs.Finding.{Finding, found, refused}
use Rattle.picture.specs.Sides.{Sized}
use Rattle.pieces.specs.Picture.{px}
use Rattle.table.specs.declared.Table.{Table}
use Rattle.regions.specs.Found.{Answer, claimed, unclaimed}
use Rattle.regions.specs.Lookup.{Looks}
use Rattle.regions.specs.declared.Region.{Region}
use Rattle.rings.specs.Ratio.{most_pixels, ring_like}
use Rattle.scanner.specs.declared.LinePosition.{LinePosition}

-- the region's count is of some pixels, and of no more than a picture has
pub record Counted (r : Region) : Type 0 where
  pub some : 0 < r.entry.px
  pub few : r.entry.px ≤ most_pixels

-- what an unclaimed region answers is
abbrev pub Countable : Finding Answer → Type 0
Countable f = (r : Region) → f ≡ found (unclaimed r) → Counted r

-- regions of unequal colour, whose sizes pass the ratio test
unfoldable pub suits : Region → Region → Bool
suits ring stone = not (eqb ring.number stone.number) && ring_like stone.entry.px ring.entry.px

-- "two unclaimed regions of unequal colour, 10 < stone x 100 / ring < 70"
unfoldable pub paired : Finding Answer → Finding Answer → Bool
paired (found (unclaimed ring)) (found (unclaimed stone)) = suits ring stone
paired (found (unclaimed ring)) (found (claimed colour)) = false
paired (found (unclaimed ring)) (refused n) = false
paired (found (claimed colour)) f = false
paired (refused n) f = false

-- "left and right pixels equal after both lookups", and the two regions make a pair
abbrev pub passes : List ℕ → ℕ → ℕ → LinePosition → Finding Answer → Finding Answer → Bool
passes q w y cut ring stone = eqb (px q w cut.left y) (px q w cut.right y) && paired ring stone

-- both columns are in the picture, and the counts can be compared
pub record Testable (q : List ℕ) (w h y : ℕ) (cut : LinePosition) (ring stone : Finding Answer) : Type 0 where
  pub sized : Sized w h (length q)
  pub left_on : cut.left < w
  pub right_on : cut.right < w
  pub in_y : y < h
  pub ring_counted : Countable ring
  pub stone_counted : Countable stone

-- the test at a cut of line y: the ring is looked up, then the stone, and then they are tested
pub record Tests (p : List ℕ) (w h y : ℕ) (cut : LinePosition) (T : Table) (verdict : Bool) (q : List ℕ) (U : Table) : Type 0 where
  pub ring : Answer
  pub between : List ℕ
  pub among : Table
  pub ring_first : Looks p w h cut.right y T ring between among
  pub stone : Answer
  pub stone_then : Looks between w h cut.stone y among stone q U
  pub is : verdict ≡ passes q w y cut (found ring) (found stone)
