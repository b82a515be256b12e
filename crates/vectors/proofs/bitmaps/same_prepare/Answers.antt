-- `same_prepare` lends the first n bytes. Assumes nothing.
use native.Mathlib.Omega.{arith}
use lib.ListN.{length-take}
use Rattle.vectors.proofs.bitmaps.same_prepare.Goals as goal

pub slice_bounds-prepare_drawn-end-2 : goal.slice_bounds-prepare_drawn-end-2
slice_bounds-prepare_drawn-end-2 c = simp length-take (omega arith)
