-- How many entries a fill pushes, by the rows of its piece (document 01, "Picture and paint"). Definitions alone.
use Rattle.std.specs.Prelude.{ℕ, suc, ◌+◌, ◌≤◌, ◌≡◌}
use Rattle.pieces.specs.Count.{Number}
use Rattle.pieces.specs.Row.{RowOf, InRow}
use Rattle.pieces.specs.declared.Row.{Row}

pub record RowPair : Type 0 where
  pub upper : Row
  pub lower : Row

-- two rows of the set S that lie on neighbouring lines and overlap in a column
pub record Overlap (S : ℕ → ℕ → Type 0) (q : RowPair) : Type 0 where
  pub above : RowOf S q.upper
  pub below : RowOf S q.lower
  pub next : q.lower.y ≡ suc q.upper.y
  pub column : ℕ
  pub in_upper : InRow q.upper column q.upper.y
  pub in_lower : InRow q.lower column q.lower.y

-- n is 1 plus the number of such pairs
pub record Pushes (S : ℕ → ℕ → Type 0) (n : ℕ) : Type 0 where
  pub pairs : ℕ
  pub number : Number (Overlap S) pairs
  pub is : n ≡ 1 + pairs

-- a stack of `room` entries holds all that a fill of S pushes
abbrev pub Room : (ℕ → ℕ → Type 0) → ℕ → Type 0
Room S room = (n : ℕ) → Pushes S n → n ≤ room
