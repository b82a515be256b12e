-- The limits of document 01. Assumes nothing.
use Rattle.std.specs.Prelude.{ℕ}

-- no side of a picture is longer (refusal 1)
abbrev pub longest_side : ℕ
longest_side = 800

-- no stated point is further out, in either direction of either axis (refusal 12)
abbrev pub farthest : ℕ
farthest = 10000

-- no list of stones is longer (refusal 11)
abbrev pub most_stones : ℕ
most_stones = 64
