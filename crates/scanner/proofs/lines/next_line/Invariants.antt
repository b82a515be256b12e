-- `next_line` stops at the first line that has a cut, or below the last line. Assumes nothing.
use Prim.Native.Nat.{◌-◌}
use mathlib.Core.Path.{◌≡◌}
use Rattle.scanner.specs.Lines.{next_line}
use Rattle.scanner.proofs.lines.next_line.Given as goal

abbrev pub invariant-loop-line : goal.invariant-loop-line
invariant-loop-line l = next_line l.pic l.width (l.height - l.y) l.y ≡ next_line l.pic l.width (l.height - l.line) l.line
