-- `advance` goes from edge to edge, and keeps what is ahead until a cut is met or the line ends. Assumes nothing.
use Prim.Native.Nat.{◌-◌}
use mathlib.Core.Path.{◌≡◌}
use Rattle.scanner.specs.Scan.{ahead, OnLine}
use Rattle.scanner.proofs.LineScanner.advance.Given as goal

abbrev pub invariant-loop-s : goal.invariant-loop-s
invariant-loop-s l = (ahead l.pic l.base l.width l.initial.s ≡ ahead l.pic l.base l.width l.s) × OnLine l.width l.s

abbrev pub decreases-loop-s : goal.decreases-loop-s
decreases-loop-s l = l.width - l.s.e4
