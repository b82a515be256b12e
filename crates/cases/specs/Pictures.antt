-- Document 01's examples of pictures and paint. Assumes nothing.
use Rattle.std.specs.Prelude.{ℕ, ◌*◌, ◌/◌, List, [], ◌∷◌, ◌++◌, get_or, replicate}
use Rattle.refusals.specs.Finding.{found}
use Rattle.pieces.specs.Piece.{Piece}
use Rattle.picture.specs.Colour.{colour_of}
use Rattle.picture.specs.declared.PixelColor.TheVariants.{Tmp1, Discarded}
use Rattle.prepare.specs.Threshold.{span, sums, thresholded}
use Rattle.claim.specs.Outcome.{Outcome}
use Rattle.cases.specs.Case.{Case, ◌answers◌, states}

-- a 16 x 1 grey line, all 200 but pixel 8 = 0, and the line with pixel 8 alone black
abbrev grey : List ℕ
grey = replicate 8 200 ++ (0 ∷ replicate 7 200)

abbrev spot : List ℕ
spot = replicate 8 0 ++ (1 ∷ replicate 7 0)

-- rows 101 / 111, and rows 10 / 01
abbrev pub arch : List ℕ
arch = 1 ∷ 0 ∷ 1 ∷ 1 ∷ 1 ∷ 1 ∷ []

-- the first of them, claimed with 2
abbrev painted : List ℕ
painted = 2 ∷ 0 ∷ 2 ∷ 2 ∷ 2 ∷ 2 ∷ []

abbrev pub diagonal : List ℕ
diagonal = 1 ∷ 0 ∷ 0 ∷ 1 ∷ []

unfoldable pub pictures : List Case
pictures =
    -- byte 4 is temporary, 5 is Discarded 0, 255 is Discarded 250
    (colour_of 4 answers Tmp1)
    ∷ (colour_of 5 answers Discarded 0)
    ∷ (colour_of 255 answers Discarded 250)
    -- a 16 x 1 grey line, all 200 but pixel 8 = 0: its sum is 397, limit 94
    ∷ (get_or (sums (span 16) 0 0 grey) 8 0 answers 397)
    ∷ (397 * 95 / (200 * span 16) answers 94)
    -- only pixel 8 is black
    ∷ (thresholded 16 1 grey answers spot)
    -- rows 101 / 111 from (0,0): 5 pixels, 3 rows, 3 pushes
    ∷ states (Outcome arch 3 2 6 0 0 2 painted (found (record { rows = 3; pixels = 5; pushes = 3 })))
    -- rows 10 / 01 are two pieces: no chain joins (0,0) and (1,1)
    ∷ states (Piece diagonal 2 2 0 0 1 1 → ⊥)
    ∷ []
