-- `read_all` goes from chunk to chunk. Assumes nothing.
use Rattle.std.proofs.Common.{[]}
use Rattle.netpbm.proofs.Feeding.{begins, still_reading}
use Rattle.locate.proofs.reading.read_all.Goals as goal

pub loop-init : goal.loop-init
loop-init g c = rw c.start-reader.ensures (record { file = []; reads = begins c.args.pixels.now c.requires })

pub returns-then-turn : goal.returns-then-turn
returns-then-turn g c = still_reading c.loop.invariant c.read_on-turn.ensures.on

pub loop-preserved : goal.loop-preserved
loop-preserved g c = still_reading c.loop.invariant c.read_on-turn.ensures.on
