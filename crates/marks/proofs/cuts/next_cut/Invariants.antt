-- `next_cut` goes on along a line, and down to the next that has a cut. Assumes nothing.
use Prim.Native.Nat.{◌-◌}
use Rattle.marks.proofs.Lines.{Pending}
use Rattle.marks.proofs.cuts.next_cut.Given as goal

abbrev pub invariant-loop-y : goal.invariant-loop-y
invariant-loop-y l = Pending l.pic l.width l.height l.initial.y l.initial.scan l.y l.scan

abbrev pub decreases-loop-y : goal.decreases-loop-y
decreases-loop-y l = l.height - l.y
