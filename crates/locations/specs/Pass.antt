-- The final pass: document 01, detect "fits in the final pass"; that it goes group by group, on the picture as the group before left it, is taken from the Rust, `detect_grids`. Definitions alone.
use Rattle.std.specs.Prelude.{ℕ, ◌+◌, ◌≤◌, ◌<◌, ◌≡◌, List, [], ◌∷◌, ◌++◌, get_or}
use Rattle.refusals.specs.Finding.{Finding, found, refused}
use Rattle.refusals.specs.Limits.{most_stones}
use Rattle.table.specs.declared.Table.{Table}
use Rattle.capstones.specs.declared.CapStone.{CapStone}
use Rattle.grids.specs.declared.SkewedGridLocation.{SkewedGridLocation}
use Rattle.groups.specs.Group.{Centred, Cornered}
use Rattle.fit.specs.Fit.{Fits}
use Rattle.groupings.specs.Used.{group_of}
use Rattle.groupings.specs.Held.{no_trio, Low}
use Rattle.groupings.specs.declared.Trio.{Trio}
use Rattle.laid.specs.Laid.{added}
use Rattle.locations.specs.Held.{locations_of, outcome_of, LaidOut}
use Rattle.locations.specs.declared.Locations.{Locations}

-- a trio names stones of an array of 64 that can be fitted: their corners are a picture's, and their centres near
pub record Ready (stones : List CapStone) (t : Trio) : Type 0 where
  pub low : Low most_stones t
  pub centred : Centred (group_of stones t)
  pub cornered : Cornered (group_of stones t)

-- each of the first n groups of an array does
abbrev pub AllReady : List CapStone → List Trio → ℕ → Type 0
AllReady stones groups n = (k : ℕ) → k < n → Ready stones (get_or groups k no_trio)

-- a group is fitted, and what it comes to is taken
pub record FitsOne (p : List ℕ) (w h : ℕ) (stones : List CapStone) (t : Trio) (s : Locations) (q : List ℕ) (r : Locations) : Type 0 where
  pub finding : Finding (List SkewedGridLocation)
  pub fits : Fits p w h s.table (group_of stones t) finding q r.table
  pub is : outcome_of r ≡ added (locations_of s) finding
  pub laid : LaidOut r
  pub few : r.n ≤ s.n + 1

-- groups are fitted one after the other, with the grids l located before; the first refusal ends it
pub data FitsAll (w h : ℕ) (stones : List CapStone) : List Trio → List ℕ → Table → List SkewedGridLocation → Finding (List SkewedGridLocation) → List ℕ → Table → Type 0 where
  finished : {p : List ℕ} {T : Table} {l : List SkewedGridLocation} → FitsAll w h stones [] p T l (found l) p T
  fitted : {t : Trio} {more : List Trio} {p : List ℕ} {T : Table} {l new : List SkewedGridLocation} {m : List ℕ} {Between : Table} {f : Finding (List SkewedGridLocation)} {q : List ℕ} {U : Table}
      → Fits p w h T (group_of stones t) (found new) m Between → FitsAll w h stones more m Between (l ++ new) f q U → FitsAll w h stones (t ∷ more) p T l f q U
  stopped : {t : Trio} {more : List Trio} {p : List ℕ} {T : Table} {l : List SkewedGridLocation} {n : ℕ} {q : List ℕ} {U : Table}
      → Fits p w h T (group_of stones t) (refused n) q U → FitsAll w h stones (t ∷ more) p T l (refused n) q U
