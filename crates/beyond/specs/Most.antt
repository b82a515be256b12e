-- How much the parts of a grid that are looked at later can add to a score: 9 for a cell. Definitions alone.
use Rattle.std.specs.Prelude.{ℕ, ◌+◌, ◌-◌, ◌*◌}

-- a mark, which has 49 cells
abbrev pub most_mark : ℕ
most_mark = 441

-- the timing lines, of a grid with so many cells along a side
abbrev pub most_lines : ℕ → ℕ
most_lines size = (size - 14) * 18

-- the alignment patterns on the timing lines, for so many alignment positions
abbrev pub most_edges : ℕ → ℕ
most_edges n = (n - 2) * 450

-- the other alignment patterns
abbrev pub most_columns : ℕ → ℕ
most_columns n = (n - 1) * ((n - 1) * 225)

-- what comes after those: the patterns on the timing lines, and the first mark
unfoldable pub after_columns : ℕ → ℕ
after_columns n = most_edges n + most_mark

-- what comes after the timing lines: all alignment patterns, and the first mark
unfoldable pub after_lines : ℕ → ℕ
after_lines n = most_columns n + after_columns n

-- what comes after the other two marks
unfoldable pub after_marks : ℕ → ℕ → ℕ
after_marks size n = most_lines size + after_lines n
