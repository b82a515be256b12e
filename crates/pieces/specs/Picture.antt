-- What a picture shows at a pixel. Definitions alone.
use Rattle.std.specs.Prelude.{ℕ, ◌+◌, ◌*◌, ◌<◌, ◌≡◌, List, ◌↔◌, get_or}

-- the byte at column x of line y, in a picture p that is w wide: its lines stand one after the other
abbrev pub px : List ℕ → ℕ → ℕ → ℕ → ℕ
px p w x y = get_or p (y * w + x) 0

-- two pictures that are w wide and h high are white at the same pixels
abbrev pub SameWhite : ℕ → ℕ → List ℕ → List ℕ → Type 0
SameWhite w h p q = (x y : ℕ) → x < w → y < h → (px p w x y ≡ 0) ↔ (px q w x y ≡ 0)

-- a place in a picture
pub record Pixel : Type 0 where
  pub col : ℕ
  pub line : ℕ

abbrev pub pixel : ℕ → ℕ → Pixel
pixel x y = record { col = x; line = y }
