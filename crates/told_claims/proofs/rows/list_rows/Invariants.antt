-- `list_rows` paints its piece and writes each row: each need is a law of Listing. Assumes nothing.
use lib.ListN.{length}
use Rattle.fill.proofs.Filling.{task_of}
use Rattle.fill.proofs.Measure.{to_do}
use Rattle.told_claims.proofs.Listing.{Listing}
use Rattle.told_claims.proofs.rows.list_rows.Given as goal

abbrev pub invariant-loop-sp : goal.invariant-loop-sp
invariant-loop-sp l =
    Listing (task_of l.initial.pic l.w l.h l.x l.y l.to) (length l.initial.stack) l.from l.pic l.stack l.sp l.initial.out l.out l.at

abbrev pub decreases-loop-sp : goal.decreases-loop-sp
decreases-loop-sp l = to_do l.from l.pic l.sp
