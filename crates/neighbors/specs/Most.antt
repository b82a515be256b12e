-- How many stones a ranking looks at. Definitions alone.
use Rattle.std.specs.Prelude.{ℕ, cond, ltb}
use Rattle.refusals.specs.Limits.{most_stones}

-- n, or 64 where n is more: past 64 stones there is nothing to rank
unfoldable pub fewer : ℕ → ℕ
fewer n = cond (ltb n most_stones) n most_stones
