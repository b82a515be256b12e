-- Scores: their sums, where a refusal stays a refusal. Definitions alone.
use Rattle.std.specs.Prelude.{ℕ, ℤ, neg_ℤ, nat_abs, ◌+ℤ◌}
use Rattle.refusals.specs.Finding.{Finding, found, refused}

infixl 6 ◌⊞◌
-- two scores together; where one is refused, so are both
unfoldable pub ◌⊞◌ : Finding ℤ → Finding ℤ → Finding ℤ
found a ⊞ found b = found (a +ℤ b)
found a ⊞ refused n = refused n
refused n ⊞ b = refused n

-- a score counted against
unfoldable pub opposite : Finding ℤ → Finding ℤ
opposite (found a) = found (neg_ℤ a)
opposite (refused n) = refused n

-- how far a score is from 0
unfoldable pub extent : Finding ℤ → ℕ
extent (found a) = nat_abs a
extent (refused n) = 0
