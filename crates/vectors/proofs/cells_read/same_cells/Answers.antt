-- `same_cells` lends the first n bytes. Assumes nothing.
use native.Mathlib.Omega.{arith}
use lib.ListN.{length-take}
use Rattle.vectors.proofs.cells_read.same_cells.Goals as goal

pub slice_bounds-read_all-end-2 : goal.slice_bounds-read_all-end-2
slice_bounds-read_all-end-2 c = simp length-take (omega arith)
