-- `read_all` goes from chunk to chunk. Assumes nothing.
use Rattle.netpbm.specs.Reads.{InReading}
use Rattle.locate.proofs.reading.read_all.Given as goal

abbrev pub invariant-loop : goal.invariant-loop
invariant-loop g l = InReading l.pixels l.reader
