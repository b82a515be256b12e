-- `number_of_cell` tells a cell by its number. Assumes nothing.
use Rattle.exports_cells.specs.Tells.{cell_number}
use Rattle.exports_cells.proofs.number_of_cell.Goals as goal

pub returns-in-Ok-Dark : goal.returns-in-Ok-Dark
unfolding cell_number
returns-in-Ok-Dark c = rw (c.in-Ok-Dark.is, (rw c.in-Ok-Dark.is at c.in-Ok-Dark.field-0-is))

pub returns-in-Ok-Light : goal.returns-in-Ok-Light
unfolding cell_number
returns-in-Ok-Light c = rw (c.in-Ok-Light.is, (rw c.in-Ok-Light.is at c.in-Ok-Light.field-0-is))

pub returns-in-Err : goal.returns-in-Err
unfolding cell_number
returns-in-Err c = rw c.in-Err.is c.from.ensures
