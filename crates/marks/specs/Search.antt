-- The search for marks, cut by cut: document 01, "Marks". Definitions alone.
use Rattle.std.specs.Prelude.{ℕ, ◌≡◌, true, false, List, [], ◌∷◌, ◌++◌, length, take}
use Rattle.refusals.specs.Limits.{most_stones}
use Rattle.refusals.specs.Finding.{Finding, found, refused}
use Rattle.laid.specs.Laid as laid
use Rattle.table.specs.declared.Table.{Table}
use Rattle.scanner.specs.declared.LinePosition.{LinePosition}
use Rattle.capstones.specs.Blank.{no_stone}
use Rattle.capstones.specs.declared.CapStone.{CapStone}
use Rattle.regions.specs.Found.{Answer}
pub use Rattle.marks.specs.Cuts.{Place, places_on, cuts_from, all_cuts}
use Rattle.marks.specs.Ring.{Testable, passes, Tests}
use Rattle.marks.specs.Stone.{Ringed, Creates}
use Rattle.marks.specs.declared.search.Marks.{Marks}

-- a cut of line y is tried, after n stones: where its ring test passes, its stone is made
pub data Tries (p : List ℕ) (w h y : ℕ) (cut : LinePosition) (T : Table) (n : ℕ) (f : Finding (List CapStone)) (q : List ℕ) (U : Table) : Type 0 where
  no_ring : Tests p w h y cut T false q U → f ≡ found [] → Tries p w h y cut T n f q U
  ring : (m : List ℕ) → Tests p w h y cut T true m U → Creates m w h cut.right y n f q → Tries p w h y cut T n f q U

-- a cut whose ring and stone are looked up can be tested, and a ring that passes can be filled
pub record Markable (m : List ℕ) (w h lent y : ℕ) (cut : LinePosition) (ring stone : Finding Answer) : Type 0 where
  pub testable : Testable m w h y cut ring stone
  pub ringed : passes m w y cut ring stone ≡ true → Ringed m w h lent cut.right y

-- what such a cut comes to, after n stones
pub data Marked (m : List ℕ) (w h y : ℕ) (cut : LinePosition) (ring stone : Finding Answer) (n : ℕ) (f : Finding (List CapStone)) (q : List ℕ) : Type 0 where
  no_mark : passes m w y cut ring stone ≡ false → f ≡ found [] → q ≡ m → Marked m w h y cut ring stone n f q
  a_mark : passes m w y cut ring stone ≡ true → Creates m w h cut.right y n f q → Marked m w h y cut ring stone n f q

-- cuts are tried one after the other, with the stones l found before; the first refusal ends it
pub data Searches (w h : ℕ) : List Place → List ℕ → Table → List CapStone → Finding (List CapStone) → List ℕ → Table → Type 0 where
  finished : {p : List ℕ} {T : Table} {l : List CapStone} → Searches w h [] p T l (found l) p T
  tried : {at : Place} {more : List Place} {p : List ℕ} {T : Table} {l new : List CapStone} {m : List ℕ} {Between : Table} {f : Finding (List CapStone)} {q : List ℕ} {U : Table}
      → Tries p w h at.line at.cut T (length l) (found new) m Between → Searches w h more m Between (l ++ new) f q U → Searches w h (at ∷ more) p T l f q U
  stopped : {at : Place} {more : List Place} {p : List ℕ} {T : Table} {l : List CapStone} {n : ℕ} {q : List ℕ} {U : Table}
      → Tries p w h at.line at.cut T (length l) (refused n) q U → Searches w h (at ∷ more) p T l (refused n) q U

-- the stones that stand in an array
abbrev pub stones_of : Marks → List CapStone
stones_of s = take s.n s.stones

-- what a search comes to: its stones, or a refusal
abbrev pub outcome : Marks → Finding (List CapStone)
outcome s = laid.outcome most_stones no_stone s.verdict s.n s.stones

-- they are laid out in an array of 64
abbrev pub Laid : Marks → Type 0
Laid s = laid.Laid most_stones no_stone s.verdict s.n s.stones
