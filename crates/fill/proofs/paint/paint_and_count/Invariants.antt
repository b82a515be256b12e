-- `paint_and_count` paints its piece and counts as it goes: each need is a law of Counting. Assumes nothing.
use lib.ListN.{length}
use Rattle.fill.proofs.Filling.{task_of}
use Rattle.fill.proofs.Measure.{to_do}
use Rattle.fill.proofs.Counting.{Counting}
use Rattle.fill.proofs.paint.paint_and_count.Given as goal

abbrev pub invariant-loop-sp : goal.invariant-loop-sp
invariant-loop-sp l =
    Counting (task_of l.initial.pic l.w l.h l.x l.y l.to) (length l.initial.stack) l.from l.pic l.stack l.sp l.rows l.pixels l.pushes

abbrev pub decreases-loop-sp : goal.decreases-loop-sp
decreases-loop-sp l = to_do l.from l.pic l.sp
