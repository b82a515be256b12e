-- `offset_of` is what `unmap` answers, from the middle, without the signs. Assumes nothing.
use lib.Ieee.{of_bits}
use Rattle.match_capstones.specs.Neighbors.{offset}
use Rattle.match_capstones.proofs.Floats.{unsigned}
use Rattle.match_capstones.proofs.lists.offset_of.Goals as goal

pub returns : goal.returns
unfolding offset of_bits
returns c = rw (c.abs-v.ensures.value, c.abs-u.ensures.value, unsigned, unsigned, c.unmap-at.ensures)
