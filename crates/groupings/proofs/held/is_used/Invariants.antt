-- `is_used` goes from group to group. Assumes nothing.
use Prim.Native.Nat.{◌≤◌, ◌-◌}
use mathlib.Core.Path.{◌≡◌}
use lib.ListN.{take, drop}
use Rattle.groupings.specs.Used.{is_used}
use Rattle.groupings.proofs.held.is_used.Given as goal

abbrev pub invariant-loop-k : goal.invariant-loop-k
invariant-loop-k l = (l.k ≤ l.last) × (is_used (drop l.k (take l.last l.held.groups)) l.i ≡ is_used (take l.last l.held.groups) l.i)

abbrev pub decreases-loop-k : goal.decreases-loop-k
decreases-loop-k l = l.last - l.k
