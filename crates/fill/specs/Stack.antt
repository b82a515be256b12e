-- The stack that a lent array of numbers holds. Definitions alone.
use Rattle.std.specs.Prelude.{ℕ, zero, suc, ◌/◌, ◌%◌, List, [], ◌∷◌, get_or}
use Rattle.pieces.specs.Picture.{Pixel, pixel}

-- no column and no line of a picture reaches this
abbrev pub widest : ℕ
widest = 1024

-- an entry is its line times 1024 plus its column
abbrev pub entry_of : ℕ → Pixel
entry_of v = pixel (v % widest) (v / widest)

-- the first n entries of s, the last first
unfoldable pub held : List ℕ → ℕ → List Pixel
held s zero = []
held s (suc n) = entry_of (get_or s n 0) ∷ held s n
