-- `elmetzhur_read_cell` reads a cell once there is a perspective, and tells it. Assumes nothing.
use borrow.Author.Tests.{lt-ltb, le-ltb}
use Rattle.exports_cells.specs.Tells.{cell_told}
use Rattle.exports_cells.proofs.elmetzhur_read_cell.Goals as goal

pub returns-then-coefficients-lt8 : goal.returns-then-coefficients-lt8
unfolding cell_told
returns-then-coefficients-lt8 c = rw (lt-ltb _ _ c.if-coefficients-lt8.true)

pub returns : goal.returns
unfolding cell_told
returns c =
    rw (le-ltb _ _ c.if-coefficients-lt8.false, c.number_of_cell.ensures, c.read_cell-cell.ensures, c.perspective_at-c.ensures)
