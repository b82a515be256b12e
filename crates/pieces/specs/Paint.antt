-- What it means to paint a piece. Definitions alone.
use Rattle.std.specs.Prelude.{ℕ, ◌<◌, ◌≡◌, List, length}
use Rattle.pieces.specs.Picture.{px}
use Rattle.pieces.specs.Piece.{Piece}

-- q is p with the piece of (x, y) painted t: its pixels show t, and every other pixel is as it was
pub record Paints (p : List ℕ) (w h x y t : ℕ) (q : List ℕ) : Type 0 where
  pub len : length q ≡ length p
  pub piece : (a b : ℕ) → Piece p w h x y a b → px q w a b ≡ t
  pub rest : (a b : ℕ) → a < w → b < h → (Piece p w h x y a b → ⊥) → px q w a b ≡ px p w a b
