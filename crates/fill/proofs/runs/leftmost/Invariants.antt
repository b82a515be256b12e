-- `leftmost` answers the left end: at each turn the end from where it stands is the end from x. Assumes nothing.
use mathlib.Core.Path.{◌≡◌}
use Rattle.fill.specs.Order.{left_end}
use Rattle.fill.proofs.runs.leftmost.Given as goal

abbrev pub invariant-loop-k : goal.invariant-loop-k
invariant-loop-k l = left_end l.pic l.w l.from l.y l.x ≡ left_end l.pic l.w l.from l.y l.k
