-- `find_groupings` goes from centre to centre, until the stones end or one is refused. Assumes nothing.
use Prim.Native.Nat.{◌≤◌, ◌-◌}
use mathlib.Core.Path.{◌≡◌}
use lib.ListN.{length, take}
use Rattle.setups.specs.Remember.{AllRemember}
use Rattle.groupings.proofs.Going.{AfterCentres}
use Rattle.groupings.proofs.centres.find_groupings.Given as goal

abbrev pub invariant-loop-idx : goal.invariant-loop-idx
invariant-loop-idx l =
    AfterCentres l.pic l.width l.height l.table (take l.n l.stones) l.idx l.sofar × (l.idx ≤ l.n) × (length l.stack ≡ length l.initial.stack) × (length l.scratch ≡ length l.initial.scratch) × AllRemember l.pic l.width l.height l.sofar.setups

abbrev pub decreases-loop-idx : goal.decreases-loop-idx
decreases-loop-idx l = l.n - l.idx
