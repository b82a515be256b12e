-- What a score is worth against the best so far, and when the cells not looked at can't change that. Definitions alone.
use Rattle.std.specs.Prelude.{ℕ, Bool, false, cond, ℤ, pos, ◌+ℤ◌}
use Rattle.std.specs.Int.Signed.{lt_z, le_z}
use Rattle.refusals.specs.Finding.{Finding, found, refused}

-- a score where it is strictly higher than the best so far, else the best; a refusal stays a refusal
unfoldable pub capped : ℤ → Finding ℤ → Finding ℤ
capped best (found z) = found (cond (lt_z best z) z best)
capped best (refused n) = refused n

-- a score that does not exceed the best so far even where as much as `rest` comes to it
unfoldable pub outdone : ℤ → ℕ → Finding ℤ → Bool
outdone best rest (found z) = le_z (z +ℤ pos rest) best
outdone best rest (refused n) = false
