-- `threshold` shades a picture row by row; the averages change sides after each. Assumes nothing.
use Prim.Native.Nat.{◌*◌}
use Rattle.prepare.proofs.Rows.{Onward}
use Rattle.prepare.proofs.threshold.threshold.Given as goal

abbrev pub invariant-loop-y : goal.invariant-loop-y
invariant-loop-y l = Onward l.s l.width l.height l.initial.pic l.pic l.lefts l.rights l.left l.right (l.y * l.width) l.y
