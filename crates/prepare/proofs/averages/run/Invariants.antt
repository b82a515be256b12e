-- `run` carries both averages along a row by the reciprocal of s, and keeps them column by column. Assumes nothing.
use Prim.Native.Nat.{◌-◌}
use lib.ListN.{length}
use Rattle.prepare.proofs.Runs.{Midway}
use Rattle.prepare.proofs.averages.run.Given as goal

abbrev pub invariant-loop-x : goal.invariant-loop-x
invariant-loop-x l = Midway l.s l.left l.right l.row l.lefts l.rights l.a l.b l.x (length l.row - l.x)
