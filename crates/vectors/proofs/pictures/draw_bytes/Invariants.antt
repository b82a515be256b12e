-- `draw_bytes` sets pixel after pixel. Assumes nothing.
use lib.ListN.{length}
use Rattle.vectors.specs.Pictures.{byte_at}
use Rattle.vectors.proofs.Drawing.{Drawing}
use Rattle.vectors.proofs.pictures.draw_bytes.Given as goal

abbrev pub invariant-loop-i : goal.invariant-loop-i
invariant-loop-i l = Drawing (byte_at l.text) (length l.initial.pic) l.i l.pic
