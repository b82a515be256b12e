-- `diff` meets its contract: the sizes say that the result fits. Assumes nothing.
use mir.Facts.{to_z-of_z}
use Rattle.sizes.proofs.Size.{fits_sub}
use Rattle.sizes.proofs.diff.Goals as goal

pub overflow_sub-result : goal.overflow_sub-result
overflow_sub-result c = simp (to_z-of_z c.ranges.a, to_z-of_z c.ranges.b) (fits_sub c.args.a c.args.b c.requires)

pub returns : goal.returns
returns c = simp (to_z-of_z c.ranges.a, to_z-of_z c.ranges.b) (to_z-of_z (fits_sub c.args.a c.args.b c.requires))
