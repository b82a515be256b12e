-- What a row of a piece is. Definitions alone.
use Rattle.std.specs.Prelude.{ℕ, suc, ◌≤◌, ◌≡◌}
use Rattle.pieces.specs.Count.{Number}
use Rattle.pieces.specs.declared.Row.{Row}

abbrev pub row : ℕ → ℕ → ℕ → Row
row l r y = record { left = l; right = r; y = y }

-- the pixel (a, b) lies in the row
abbrev pub InRow : Row → ℕ → ℕ → Type 0
InRow r a b = (r.y ≡ b) × (r.left ≤ a) × (a ≤ r.right)

-- r is a row of the set S: a run of its pixels on a line, and S has neither the pixel before it nor the one after it
pub record RowOf (S : ℕ → ℕ → Type 0) (r : Row) : Type 0 where
  pub order : r.left ≤ r.right
  pub all : (k : ℕ) → r.left ≤ k → k ≤ r.right → S k r.y
  pub before : (k : ℕ) → suc k ≡ r.left → S k r.y → ⊥
  pub after : S (suc r.right) r.y → ⊥

-- the set S has n rows
abbrev pub Rows : (ℕ → ℕ → Type 0) → ℕ → Type 0
Rows S n = Number (RowOf S) n
