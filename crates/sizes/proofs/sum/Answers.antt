-- `sum` meets its contract: the sizes say that the result fits. Assumes nothing.
use mir.Facts.{to_z-of_z}
use Rattle.sizes.proofs.Size.{fits_add}
use Rattle.sizes.proofs.sum.Goals as goal

pub overflow_add-result : goal.overflow_add-result
overflow_add-result c = simp (to_z-of_z c.ranges.a, to_z-of_z c.ranges.b) (fits_add c.args.a c.args.b c.requires)

pub returns : goal.returns
returns c = simp (to_z-of_z c.ranges.a, to_z-of_z c.ranges.b) (to_z-of_z (fits_add c.args.a c.args.b c.requires))
