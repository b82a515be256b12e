-- The threshold: document 01, "Threshold"; prepare.rs, `PreparedImage::prepare`. Assumes nothing.
use Rattle.std.specs.Prelude.{ℕ, zero, suc, ◌+◌, ◌-◌, ◌*◌, ◌/◌, max, Bool, true, false, cond, ltb, take, drop}
use mathlib.Core.List.{List, [], ◌∷◌, ◌++◌, reverse, foldl, zip_with}
use Rattle.picture.specs.Colour.{byte_of}
use Rattle.picture.specs.declared.PixelColor.TheVariants.{White, Black}

-- s, the span of an average
abbrev pub span : ℕ → ℕ
span width = max (width / 8) 1

-- an average, one pixel on: whole division, multiplication first
unfoldable pub step : ℕ → ℕ → ℕ → ℕ
step s average pixel = average * (s - 1) / s + pixel

-- an average at the end of a run of pixels
abbrev pub after : ℕ → ℕ → List ℕ → ℕ
after s average pixels = foldl (step s) average pixels

-- an average along a run of pixels: what it is at each
unfoldable pub along : ℕ → ℕ → List ℕ → List ℕ
along s average [] = []
along s average (pixel ∷ pixels) = step s average pixel ∷ along s (step s average pixel) pixels

-- column by column, an average that runs from the right
unfoldable pub from_right : ℕ → ℕ → List ℕ → List ℕ
from_right s average row = reverse (along s average (reverse row))

-- a column's sum is both averages: one runs from the left, one from the right
unfoldable pub sums : ℕ → ℕ → ℕ → List ℕ → List ℕ
sums s left right row = zip_with ◌+◌ (along s left row) (from_right s right row)

-- a pixel is black when below sum x 95 / (200 x s)
unfoldable pub shade : ℕ → ℕ → ℕ → ℕ
shade s pixel sum = byte_of (cond (ltb pixel (sum * 95 / (200 * s))) Black White)

-- a row, in black and white
unfoldable pub shaded : ℕ → ℕ → ℕ → List ℕ → List ℕ
shaded s left right row = zip_with (shade s) row (sums s left right row)

-- rows in black and white, with the averages v and u that the first of them meets: on even rows v runs from the right and u from the left, on odd rows the other way
unfoldable pub rows : (s width height : ℕ) → (even : Bool) → (v u : ℕ) → List ℕ → List ℕ
rows s width zero even v u pic = []
rows s width (suc height) true v u pic =
    let row = take width pic in
    shaded s u v row ++ rows s width height false (after s v (reverse row)) (after s u row) (drop width pic)
rows s width (suc height) false v u pic =
    let row = take width pic in
    shaded s v u row ++ rows s width height true (after s v row) (after s u (reverse row)) (drop width pic)

-- the picture in black and white: the first row is even, and both averages start at 0
unfoldable pub thresholded : ℕ → ℕ → List ℕ → List ℕ
thresholded width height pic = rows (span width) width height true 0 0 pic
