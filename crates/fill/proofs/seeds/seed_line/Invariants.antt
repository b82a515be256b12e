-- `seed_line` scans a line as the rule does, a single column at once and any other by stretches: what is left of the scan, from where it stands, gives what the whole gives. Assumes nothing.
use Prim.Native.Nat.{◌-◌}
use mathlib.Core.Path.{◌≡◌}
use mathlib.Core.Bool.{false}
use Rattle.pieces.specs.Picture.{pixel}
use Rattle.fill.specs.Order.{seeds}
use Rattle.fill.specs.Stack.{held}
use Rattle.fill.proofs.Stretches.{Onset}
use Rattle.fill.proofs.seeds.seed_line.Given as goal

abbrev pub invariant-loop-x : goal.invariant-loop-x
invariant-loop-x l =
    (seeds (λ e. pixel e l.y) l.pic l.w l.from l.y l.left l.n false (held l.initial.stack l.sp) ≡ seeds (λ e. pixel e l.y) l.pic l.w l.from l.y l.x (l.end - l.x) false (held l.stack l.top)) × Onset l.pic l.base l.from l.left l.end l.x

abbrev pub decreases-loop-x : goal.decreases-loop-x
decreases-loop-x l = l.end - l.x
