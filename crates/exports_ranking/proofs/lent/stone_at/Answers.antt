-- `stone_at` puts a stone together from its numbers. Assumes nothing.
use Rattle.exports_ranking.specs.Ranks.{lent_stone}
use Rattle.exports_ranking.proofs.lent.stone_at.Goals as goal

pub returns : goal.returns
unfolding lent_stone
returns c = rw (c.perspective_at-c.ensures, c.point_at-center.ensures)
