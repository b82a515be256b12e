-- `opposite` meets its contract: the size says that the result fits. Assumes nothing.
use lib.IntN.{neg_ℤ, +ℤ_idl}
use mir.Facts.{to_z-of_z}
use Rattle.sizes.proofs.Size.{fits_neg}
use Rattle.sizes.proofs.opposite.Goals as goal

pub overflow_sub-result : goal.overflow_sub-result
overflow_sub-result c = simp (to_z-of_z c.ranges.a, +ℤ_idl (neg_ℤ c.args.a)) (fits_neg c.args.a c.requires)

pub returns : goal.returns
returns c = simp (to_z-of_z c.ranges.a, +ℤ_idl (neg_ℤ c.args.a)) (to_z-of_z (fits_neg c.args.a c.requires))
