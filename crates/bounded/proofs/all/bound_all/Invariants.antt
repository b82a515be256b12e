-- `bound_all` goes from grid to grid, until they end or one is refused. Assumes nothing.
use Prim.Native.Nat.{◌≤◌, ◌-◌}
use lib.ListN.{take}
use Rattle.bounded.proofs.Bounding.{AfterGrids}
use Rattle.bounded.proofs.all.bound_all.Given as goal

abbrev pub invariant-loop-k : goal.invariant-loop-k
invariant-loop-k l = AfterGrids (take l.n l.locations) l.k l.sofar × (l.k ≤ l.n)

abbrev pub decreases-loop-k : goal.decreases-loop-k
decreases-loop-k l = l.n - l.k
