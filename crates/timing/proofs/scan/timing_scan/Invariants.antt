-- `timing_scan` counts point by point, until the scan is done. Assumes nothing.
use Rattle.timing.proofs.Counting.{Counting}
use Rattle.timing.proofs.scan.timing_scan.Given as goal

abbrev pub invariant-loop-p : goal.invariant-loop-p
invariant-loop-p l = Counting l.pic l.width l.height l.initial.previous l.previous l.count l.initial.p-iterator l.p-iterator
