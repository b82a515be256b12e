-- `put_places` writes a stone's five points, one behind the other. Assumes nothing.
use Rattle.told_places.proofs.Places.{put_ten}
use Rattle.exports_marks.proofs.stones.put_places.Goals as goal

pub returns : goal.returns
returns c =
    rw (c.put_point-5.ensures, c.put_point-4.ensures, c.put_point-3.ensures, c.put_point-2.ensures, c.put_point.ensures) (put_ten _ _ _ _ _ _ _ _ _ _ _ _)
