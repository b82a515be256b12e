-- The cells that each symbol of a size shows dark, or light: the timing lines, marks and alignment patterns of ISO/IEC 18004. How often a cell is listed is taken from the Rust, `fitness_all`. Definitions alone.
use Rattle.std.specs.Prelude.{ℕ, zero, suc, ◌+◌, ◌-◌, ◌*◌, ◌%◌, cond, List, [], ◌∷◌, ◌++◌, eqb}
use Rattle.version_db.specs.AnnexE.{count_of, version_of, position_of}

pub data Shade : Type 0 where
  dark light : Shade

-- a cell, by its column and line, and the shade that it is expected to have
pub record Expected : Type 0 where
  pub shade : Shade
  pub col : ℕ
  pub line : ℕ

abbrev pub cell : Shade → ℕ → ℕ → Expected
cell s x y = record { shade = s; col = x; line = y }

-- f 0, f 1 and so on to f (n - 1), one after the other
abbrev pub each : ℕ → (ℕ → List Expected) → List Expected
each zero f = []
each (suc n) f = each n f ++ f n

-- the timing lines alternate: dark at even places
abbrev pub alternating : ℕ → Shade
alternating k = cond (eqb (k % 2) 0) dark light

-- place k of both timing lines, of which one is line 6 and the other column 6
abbrev pub crossing : ℕ → List Expected
crossing k = cell (alternating k) k 6 ∷ cell (alternating k) 6 k ∷ []

-- the timing lines between the marks, with the light cell beside each mark
unfoldable pub timing : ℕ → List Expected
timing size = each (size - 14) (λ i. crossing (7 + i))

-- the i-th cell on each of the four sides of the ring at distance r from (x, y)
abbrev pub sides : Shade → ℕ → ℕ → ℕ → ℕ → List Expected
sides s x y r i = cell s (x - r + i) (y - r) ∷ cell s (x - r) (y + r - i) ∷ cell s (x + r) (y - r + i) ∷ cell s (x + r - i) (y + r) ∷ []

-- the ring of cells at distance r from (x, y)
unfoldable pub ring : Shade → ℕ → ℕ → ℕ → List Expected
ring s x y r = each (2 * r) (sides s x y r)

-- a mark, by its corner: a stone of three by three, a light ring and a dark ring
unfoldable pub mark : ℕ → ℕ → List Expected
mark x y = cell dark (x + 3) (y + 3) ∷ (ring dark (x + 3) (y + 3) 1 ++ ring light (x + 3) (y + 3) 2 ++ ring dark (x + 3) (y + 3) 3)

-- an alignment pattern, by its middle: a dark cell, a light ring and a dark ring
unfoldable pub pattern : ℕ → ℕ → List Expected
pattern x y = cell dark x y ∷ (ring light x y 1 ++ ring dark x y 2)

-- the two alignment patterns on the timing lines at a position
abbrev pub edge : ℕ → List Expected
edge at = pattern 6 at ++ pattern at 6

-- those of a version on the timing lines: at each position but the first and the last, where marks are
unfoldable pub edges : ℕ → List Expected
edges v = each (count_of v - 2) (λ i. edge (position_of v (1 + i)))

-- those in column x: at each position but the first
unfoldable pub column : ℕ → ℕ → List Expected
column v x = each (count_of v - 1) (λ j. pattern x (position_of v (1 + j)))

-- those in the columns of each position but the first
unfoldable pub columns : ℕ → List Expected
columns v = each (count_of v - 1) (λ i. column v (position_of v (1 + i)))

-- all of them, for a grid with so many cells along a side
unfoldable pub expected : ℕ → List Expected
expected size = timing size ++ mark 0 0 ++ mark (size - 7) 0 ++ mark 0 (size - 7) ++ edges (version_of size) ++ columns (version_of size)
