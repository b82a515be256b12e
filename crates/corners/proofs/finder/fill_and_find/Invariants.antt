-- `fill_and_find` paints its piece and shows the finder each row: each need is a law of Looking. Assumes nothing.
use lib.ListN.{length}
use Rattle.fill.proofs.Filling.{task_of}
use Rattle.fill.proofs.Measure.{to_do}
use Rattle.corners.specs.Rows.{by_ends}
use Rattle.corners.proofs.Looking.{Looking}
use Rattle.corners.proofs.finder.fill_and_find.Given as goal

abbrev pub invariant-loop-sp : goal.invariant-loop-sp
invariant-loop-sp g l =
    let m = g.F.Finder in
    Looking m.Ready (by_ends m.sees) l.initial.found (task_of l.initial.pic l.w l.h l.x l.y l.to) (length l.initial.stack) l.from l.pic l.stack l.sp l.found

abbrev pub decreases-loop-sp : goal.decreases-loop-sp
decreases-loop-sp g l = to_do l.from l.pic l.sp
