-- `first_column` answers the first column that passes the test: none before it does. Assumes nothing.
use Rattle.std.proofs.Common.{ℕ, false, ◌+◌, ◌<◌, ◌≤◌, slice_index}
use Rattle.fill.proofs.seeds.first_column.Given as goal

abbrev pub invariant-loop-k : goal.invariant-loop-k
invariant-loop-k g l = (c : ℕ) → l.x ≤ c → c < l.k → goal.F-post g l.test (slice_index l.pic (l.base + c)) false
