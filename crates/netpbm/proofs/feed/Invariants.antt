-- `feed` takes byte after byte: the bytes that are left lead where the whole chunk leads. Assumes nothing.
use Rattle.netpbm.specs.Machine.{reading}
use Rattle.netpbm.proofs.Feeding.{Feeding}
use Rattle.netpbm.proofs.feed.Given as goal

abbrev pub invariant-loop-byte : goal.invariant-loop-byte
invariant-loop-byte l = Feeding l.chunk (reading l.initial.state l.initial.pixels) (reading l.state l.pixels) l.byte-index
