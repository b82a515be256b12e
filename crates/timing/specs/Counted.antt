-- The grid size by the count of a timing scan: document 01, "Groups and grids". Definitions alone.
use Rattle.std.specs.Prelude.{ℕ, ◌+◌, ◌-◌, ◌*◌, ◌/◌, cond, ltb}
use Rattle.refusals.specs.Limits.{farthest}

-- no scan counts more: its ends are stated points
abbrev pub most_changes : ℕ
most_changes = farthest + farthest

-- "Grid size from scan count k: 17 for k below 6, else (k-2)/4 x 4 + 17"
unfoldable pub grid_size : ℕ → ℕ
grid_size k = cond (ltb k 6) 17 ((k - 2) / 4 * 4 + 17)
