-- The cuts of a line that may go through a mark: document 01, "Marks". Five runs in a row of which the last is dark, so that its end is a change to white, and which pass the run test. The end of a line counts as a change to white. Assumes nothing.
use Rattle.std.specs.Prelude.{ℕ, ◌-◌, Bool, cond, ◌&&◌, List, [], ◌∷◌}
use Rattle.runs.specs.Mark.{mark_like}
use Rattle.scanner.specs.Edges.{dark, edges_after}
use Rattle.scanner.specs.declared.LinePosition.{LinePosition}

-- the lengths of the five runs between six edges
abbrev pub lengths : ℕ → ℕ → ℕ → ℕ → ℕ → ℕ → List ℕ
lengths a b c d e f = (b - a) ∷ (c - b) ∷ (d - c) ∷ (e - d) ∷ (f - e) ∷ []

-- they are a cut through what may be a mark
abbrev pub is_cut : List ℕ → ℕ → ℕ → ℕ → ℕ → ℕ → ℕ → ℕ → Bool
is_cut p base a b c d e f = dark p base e && mark_like (lengths a b c d e f)

-- where it is: the first columns of the outer runs and of the middle one
abbrev pub position : ℕ → ℕ → ℕ → LinePosition
position left stone right = record { left = left; stone = stone; right = right }

-- the cut that begins at the edge a, if five edges follow and make one; and the later cuts
unfoldable pub cut_at : List ℕ → ℕ → ℕ → List ℕ → List LinePosition → List LinePosition
cut_at p base a [] later = later
cut_at p base a (b ∷ []) later = later
cut_at p base a (b ∷ c ∷ []) later = later
cut_at p base a (b ∷ c ∷ d ∷ []) later = later
cut_at p base a (b ∷ c ∷ d ∷ e ∷ []) later = later
cut_at p base a (b ∷ c ∷ d ∷ e ∷ f ∷ more) later = cond (is_cut p base a b c d e f) (position a c e ∷ later) later

-- the cuts among edges in a row, from left to right
unfoldable pub cuts : List ℕ → ℕ → List ℕ → List LinePosition
cuts p base [] = []
cuts p base (a ∷ more) = cut_at p base a more (cuts p base more)

-- the cuts of a line of w pixels that starts at base
abbrev pub line_cuts : List ℕ → ℕ → ℕ → List LinePosition
line_cuts p base w = cuts p base (0 ∷ edges_after p base w 0)
