-- `group_of` puts three stones together. Assumes nothing.
use Rattle.exports_grids.specs.Lent.{group_of}
use Rattle.exports_grids.proofs.lent.group_of.Goals as goal

pub returns : goal.returns
unfolding group_of
returns c = rw (c.stone_at-third.ensures, c.stone_at-second.ensures, c.stone_at-first.ensures)
