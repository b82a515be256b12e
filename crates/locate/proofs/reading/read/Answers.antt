-- `read` tells what was read. Assumes nothing.
use Rattle.netpbm.proofs.Feeding.{reading_bounded}
use Rattle.locate.proofs.reading.read.Goals as goal

pub finish-requires : goal.finish-requires
finish-requires g c = reading_bounded c.read_all.ensures
