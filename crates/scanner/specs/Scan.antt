-- A scan of a line, from cut to cut. Assumes nothing.
use Rattle.std.specs.Prelude.{ℕ, ◌+◌, ◌-◌, ◌≤◌, ◌<◌, ◌≡◌, List, [], ◌∷◌, ◌++◌, drop, Option, Some, None}
use Rattle.scanner.specs.Edges.{edges_after}
use Rattle.scanner.specs.Cuts.{cuts}
use Rattle.scanner.specs.declared.LinePosition.{LinePosition}
use Rattle.scanner.specs.declared.LineScanner.{LineScanner}

-- a scan begins at the first column, which counts as an edge
unfoldable pub begun : LineScanner
begun = record { e0 = 0; e1 = 0; e2 = 0; e3 = 0; e4 = 0; met = 1 }

-- one edge further
abbrev pub passed : LineScanner → ℕ → LineScanner
passed s edge = record { e0 = s.e1; e1 = s.e2; e2 = s.e3; e3 = s.e4; e4 = edge; met = s.met + 1 }

-- the edges that a scan remembers: the last five, or all while they are fewer
unfoldable pub remembered : LineScanner → List ℕ
remembered s = drop (5 - s.met) (s.e0 ∷ s.e1 ∷ s.e2 ∷ s.e3 ∷ s.e4 ∷ [])

-- the cuts that are still ahead of it
unfoldable pub ahead : List ℕ → ℕ → ℕ → LineScanner → List LinePosition
ahead p base w s = cuts p base (remembered s ++ edges_after p base w s.e4)

-- its edges are in order and on the line, and there are no more of them than columns
pub record OnLine (w : ℕ) (s : LineScanner) : Type 0 where
  pub some : 0 < s.met
  pub few : s.met ≤ s.e4 + 1
  pub in0 : s.e0 ≤ s.e1
  pub in1 : s.e1 ≤ s.e2
  pub in2 : s.e2 ≤ s.e3
  pub in3 : s.e3 ≤ s.e4
  pub in4 : s.e4 ≤ w

-- what a scan comes to: the first cut that is ahead, with a scan that has the others ahead; or the end, where there is none
pub data Comes (p : List ℕ) (base w : ℕ) (s : LineScanner) : Option (LinePosition × LineScanner) → Type 0 where
  to_cut : (at : LinePosition) (t : LineScanner) → ahead p base w s ≡ at ∷ ahead p base w t → OnLine w t → Comes p base w s (Some (at, t))
  to_end : ahead p base w s ≡ [] → Comes p base w s None
