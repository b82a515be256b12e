-- The cuts of a picture, in the order of the search, and what a scan of the picture comes to. Definitions alone.
use Rattle.std.specs.Prelude.{ℕ, zero, suc, ◌+◌, ◌-◌, ◌*◌, ◌<◌, ◌≡◌, List, [], ◌∷◌, ◌++◌, map, Option, Some, None}
use Rattle.scanner.specs.Cuts.{line_cuts}
use Rattle.scanner.specs.Scan.{ahead, OnLine}
use Rattle.scanner.specs.declared.LinePosition.{LinePosition}
use Rattle.scanner.specs.declared.LineScanner.{LineScanner}

-- a cut, and the line that it is on
pub record Place : Type 0 where
  pub line : ℕ
  pub cut : LinePosition

abbrev pub places_on : ℕ → List LinePosition → List Place
places_on y cuts = map (λ (cut : LinePosition). record { line = y; cut = cut }) cuts

-- the cuts of n lines from line y on, from top to bottom, and on each line from left to right
unfoldable pub cuts_from : List ℕ → ℕ → ℕ → ℕ → List Place
cuts_from p w zero y = []
cuts_from p w (suc n) y = places_on y (line_cuts p (y * w) w) ++ cuts_from p w n (suc y)

-- all cuts of a picture
abbrev pub all_cuts : List ℕ → ℕ → ℕ → List Place
all_cuts p w h = cuts_from p w h 0

-- the cuts that are still ahead of a scan of line y: those on its line, and those of the lines below
abbrev pub cuts_after : List ℕ → ℕ → ℕ → ℕ → LineScanner → List Place
cuts_after p w h y scan = places_on y (ahead p (y * w) w scan) ++ cuts_from p w (h - (y + 1)) (y + 1)

-- what a scan of the picture comes to: the first cut that is ahead, with a scan that has the others ahead; or the end, where there is none
pub data Reaches (p : List ℕ) (w h y : ℕ) (scan : LineScanner) : Option (ℕ × LinePosition × LineScanner) → Type 0 where
  next_cut : (line : ℕ) (at : LinePosition) (next : LineScanner) → line < h → OnLine w next → cuts_after p w h y scan ≡ record { line = line; cut = at } ∷ cuts_after p w h line next → Reaches p w h y scan (Some (line, at, next))
  no_cut : cuts_after p w h y scan ≡ [] → Reaches p w h y scan None
