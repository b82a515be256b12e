-- `cell_at` is dark where the picture is not white. Assumes nothing.
use borrow.Author.Tests.{eq-eqb, ne_eqb}
use Rattle.cells.specs.Cell.{cell_at}
use Rattle.cells.proofs.cell_at.Goals as goal

pub returns-then-get_pixel_at_point-eq0 : goal.returns-then-get_pixel_at_point-eq0
unfolding cell_at
returns-then-get_pixel_at_point-eq0 c = rw (← c.get_pixel_at_point.ensures, eq-eqb _ _ c.if-get_pixel_at_point-eq0.true)

pub returns : goal.returns
unfolding cell_at
returns c = rw (← c.get_pixel_at_point.ensures, ne_eqb _ _ c.if-get_pixel_at_point-eq0.false)
