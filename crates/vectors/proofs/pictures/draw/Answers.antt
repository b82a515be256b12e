-- `draw` lends the first n bytes. Assumes nothing.
use native.Mathlib.Omega.{arith}
use lib.ListN.{length-take}
use Rattle.vectors.proofs.pictures.draw.Goals as goal

pub slice_bounds-draw_digits-end-2 : goal.slice_bounds-draw_digits-end-2
slice_bounds-draw_digits-end-2 c = simp length-take (omega arith)

pub draw_digits-requires : goal.draw_digits-requires
draw_digits-requires c = simp length-take (omega arith)
