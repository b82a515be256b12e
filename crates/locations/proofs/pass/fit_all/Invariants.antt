-- `fit_all` goes from group to group, until they end or one is refused. Assumes nothing.
use Prim.Native.Nat.{◌≤◌, ◌-◌}
use mathlib.Core.Path.{◌≡◌}
use lib.ListN.{length, take}
use Rattle.locations.proofs.Passing.{AfterGroups}
use Rattle.locations.proofs.pass.fit_all.Given as goal

abbrev pub invariant-loop-k : goal.invariant-loop-k
invariant-loop-k l =
    AfterGroups l.width l.height l.stones (take l.n l.groups) l.initial.pic l.initial.sofar.table l.k l.pic l.sofar × (l.k ≤ l.n) × (length l.pic ≡ length l.initial.pic) × (length l.stack ≡ length l.initial.stack)

abbrev pub decreases-loop-k : goal.decreases-loop-k
decreases-loop-k l = l.n - l.k
