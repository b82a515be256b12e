-- Document 01's examples of marks. Assumes nothing.
use Rattle.std.specs.Prelude.{ℕ, true, false, List, [], ◌∷◌}
use Rattle.runs.specs.Mark.{mark_like}
use Rattle.rings.specs.Ratio.{ratio, ring_like}
use Rattle.cases.specs.Case.{Case, ◌answers◌}

-- runs 4,4,c,4,4
abbrev around : ℕ → List ℕ
around c = 4 ∷ 4 ∷ c ∷ 4 ∷ 4 ∷ []

unfoldable pub marks : List Case
marks =
    -- runs 4,4,c,4,4 pass for c = 9 and 15, fail for 8 and 16
    (mark_like (around 9) answers true)
    ∷ (mark_like (around 15) answers true)
    ∷ (mark_like (around 8) answers false)
    ∷ (mark_like (around 16) answers false)
    -- stone 9, ring 24 gives 37, passes
    ∷ (ratio 9 24 answers 37)
    ∷ (ring_like 9 24 answers true)
    -- ratios 11 and 69 pass, 10 and 70 don't
    ∷ (ring_like 11 100 answers true)
    ∷ (ring_like 69 100 answers true)
    ∷ (ring_like 10 100 answers false)
    ∷ (ring_like 70 100 answers false)
    ∷ []
