-- What a piece of a picture is: by chains, never by what a fill paints (document 01, "What a finding commits to"). Definitions alone.
use Rattle.std.specs.Prelude.{ℕ, ◌<◌, ◌≡◌, List}
use Rattle.pieces.specs.Picture.{px, Pixel}
use Rattle.pieces.specs.Count.{Number}
use Rattle.pieces.specs.Chain.{Chain}

-- (a, b) is a pixel of the picture, which is w by h, and shows the byte v
abbrev pub Same : List ℕ → ℕ → ℕ → ℕ → ℕ → ℕ → Type 0
Same p w h v a b = (a < w) × (b < h) × (px p w a b ≡ v)

-- it shows a byte that is not white
abbrev pub Dark : List ℕ → ℕ → ℕ → ℕ → ℕ → Type 0
Dark p w h a b = (a < w) × (b < h) × (px p w a b ≡ 0 → ⊥)

-- (a, b) is of the piece of (x, y): a chain of pixels that all show the byte of (x, y) joins the two
abbrev pub Piece : List ℕ → ℕ → ℕ → ℕ → ℕ → ℕ → ℕ → Type 0
Piece p w h x y a b = Chain (Same p w h (px p w x y)) x y a b

-- the same of a bitmap, whose colours don't matter: a chain of pixels that are not white joins the two
abbrev pub BitmapPiece : List ℕ → ℕ → ℕ → ℕ → ℕ → ℕ → ℕ → Type 0
BitmapPiece p w h x y a b = Chain (Dark p w h) x y a b

-- the set S has n pixels
abbrev pub Pixels : (ℕ → ℕ → Type 0) → ℕ → Type 0
Pixels S n = Number (λ (a : Pixel). S a.col a.line) n
