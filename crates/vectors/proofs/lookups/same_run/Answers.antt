-- `same_run` lends the first bytes and entries. Assumes nothing.
use native.Mathlib.Omega.{arith}
use lib.ListN.{length-take}
use Rattle.vectors.proofs.lookups.same_run.Goals as goal

pub slice_bounds-run_drawn-end-2 : goal.slice_bounds-run_drawn-end-2
slice_bounds-run_drawn-end-2 c = simp length-take (omega arith)

pub slice_bounds-run_drawn-end-4 : goal.slice_bounds-run_drawn-end-4
slice_bounds-run_drawn-end-4 c = simp length-take (omega arith)
