-- `same_detect` lends the first bytes and entries. Assumes nothing.
use native.Mathlib.Omega.{arith}
use lib.ListN.{length-take}
use Rattle.vectors.proofs.detections.same_detect.Goals as goal

pub slice_bounds-detect_drawn-end-2 : goal.slice_bounds-detect_drawn-end-2
slice_bounds-detect_drawn-end-2 c = simp length-take (omega arith)

pub slice_bounds-detect_drawn-end-4 : goal.slice_bounds-detect_drawn-end-4
slice_bounds-detect_drawn-end-4 c = simp length-take (omega arith)

pub slice_bounds-detect_drawn-end-6 : goal.slice_bounds-detect_drawn-end-6
slice_bounds-detect_drawn-end-6 c = simp length-take (omega arith)
