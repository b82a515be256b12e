-- `stone_at` puts a stone together from its numbers. Assumes nothing.
use Rattle.exports_grids.specs.Lent.{stone_at}
use Rattle.exports_grids.proofs.lent.stone_at.Goals as goal

pub returns : goal.returns
unfolding stone_at
returns c =
    rw (c.point_at-p4.ensures, c.point_at-p3.ensures, c.point_at-p2.ensures, c.point_at-p1.ensures, c.point_at-p0.ensures, c.no_perspective-c.ensures)
