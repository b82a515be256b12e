-- `put_claimed` writes the byte of a colour, and 0. Assumes nothing.
use mathlib.Core.Path.{refl}
use Rattle.exports_regions.proofs.put_claimed.Goals as goal

pub returns : goal.returns
returns c = (refl, rw c.byte_of-byte.ensures at c.put_table.ensures)
