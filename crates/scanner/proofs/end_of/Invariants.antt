-- `end_of` stops at the first pixel of the other shade, or at the end of the line. Assumes nothing.
use Prim.Native.Nat.{◌-◌}
use mathlib.Core.Path.{◌≡◌}
use Rattle.scanner.specs.Edges.{run_end}
use Rattle.scanner.proofs.end_of.Given as goal

abbrev pub invariant-loop-end : goal.invariant-loop-end
invariant-loop-end l = run_end l.is_dark l.pic l.base (l.width - l.x) l.x ≡ run_end l.is_dark l.pic l.base (l.width - l.end) l.end
