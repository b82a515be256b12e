-- `draw_bits` sets pixel after pixel. Assumes nothing.
use lib.ListN.{length}
use Rattle.vectors.specs.Pictures.{bit_at}
use Rattle.vectors.proofs.Drawing.{Drawing}
use Rattle.vectors.proofs.pictures.draw_bits.Given as goal

abbrev pub invariant-loop-i : goal.invariant-loop-i
invariant-loop-i l = Drawing (bit_at l.text) (length l.initial.pic) l.i l.pic
