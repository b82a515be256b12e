-- `same_fit` lends the first bytes and entries. Assumes nothing.
use native.Mathlib.Omega.{arith}
use lib.ListN.{length-take}
use Rattle.vectors.proofs.fits.same_fit.Goals as goal

pub slice_bounds-fit_drawn-end-2 : goal.slice_bounds-fit_drawn-end-2
slice_bounds-fit_drawn-end-2 c = simp length-take (omega arith)

pub slice_bounds-fit_drawn-end-4 : goal.slice_bounds-fit_drawn-end-4
slice_bounds-fit_drawn-end-4 c = simp length-take (omega arith)

pub slice_bounds-fit_drawn-end-6 : goal.slice_bounds-fit_drawn-end-6
slice_bounds-fit_drawn-end-6 c = simp length-take (omega arith)
