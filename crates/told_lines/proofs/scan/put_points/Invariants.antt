use Rattle.told_lines.proofs.Scanned.{Written}
use Rattle.told_lines.proofs.scan.put_points.Given as goal

abbrev pub invariant-loop-p : goal.invariant-loop-p
invariant-loop-p l = Written l.initial.out l.out l.at l.initial.p-iterator l.p-iterator
