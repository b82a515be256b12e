-- `try_pairs` goes from pair to pair, also after a group is found, until the pairs end or one is refused. Assumes nothing.
use Prim.Native.Nat.{◌≤◌, ◌-◌}
use mathlib.Core.Path.{◌≡◌}
use lib.ListN.{length, take}
use Rattle.setups.specs.Remember.{AllRemember}
use Rattle.groupings.specs.Held.{groups_of}
use Rattle.groupings.proofs.Going.{AfterPairs}
use Rattle.groupings.proofs.pairs.try_pairs.Given as goal

abbrev pub invariant-loop-k : goal.invariant-loop-k
invariant-loop-k l =
    AfterPairs l.pic l.width l.height l.table l.stones l.idx (take l.count l.pairs) (groups_of l.initial.sofar) l.k l.sofar × (l.k ≤ l.count) × (length l.stack ≡ length l.initial.stack) × (length l.scratch ≡ length l.initial.scratch) × AllRemember l.pic l.width l.height l.sofar.setups

abbrev pub decreases-loop-k : goal.decreases-loop-k
decreases-loop-k l = l.count - l.k
