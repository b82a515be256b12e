-- `same_accept` lends the first n bytes. Assumes nothing.
use native.Mathlib.Omega.{arith}
use lib.ListN.{length-take}
use Rattle.vectors.proofs.bitmaps.same_accept.Goals as goal

pub slice_bounds-accept-end-2 : goal.slice_bounds-accept-end-2
slice_bounds-accept-end-2 c = simp length-take (omega arith)
