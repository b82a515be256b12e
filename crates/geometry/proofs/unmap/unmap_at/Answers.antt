-- `unmap_at` is both coordinates over one denominator. Assumes nothing.
use Rattle.geometry.specs.Unmap.{unmapped_at}
use Rattle.geometry.proofs.unmap.unmap_at.Goals as goal

pub returns : goal.returns
unfolding unmapped_at
returns c = rw (c.unmap_v-v.ensures, c.unmap_u-u.ensures, c.unmap_den-den.ensures)
