-- What can be met on the way: document 01, detect "1, 2, 3, 4, then as met". Definitions alone.
use Rattle.std.specs.Prelude.{ℕ, ◌≤◌}
use Rattle.refusals.specs.Finding.{Finding, found, refused}

-- 10 Number, 11 Stones, 12 Far, 13 Unplaced, 14 Timing, 15 Turned
abbrev pub OnTheWay : ℕ → Type 0
OnTheWay n = (10 ≤ n) × (n ≤ 15)

-- something is found, or it is refused by one of these
abbrev pub Met : {A : Type 0} → Finding A → Type 0
Met (found a) = Unit {0}
Met (refused n) = OnTheWay n
