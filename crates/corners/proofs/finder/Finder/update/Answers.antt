-- A finder sees a row's left end, then its right end. Assumes nothing.
use Rattle.corners.specs.Rows.{by_ends}
use Rattle.corners.proofs.finder.Finder.update.Goals as goal

pub returns : goal.returns
unfolding by_ends
returns g c = rw (c.see.ensures, c.point_at-2.ensures, c.see-f.ensures, c.point_at.ensures)
