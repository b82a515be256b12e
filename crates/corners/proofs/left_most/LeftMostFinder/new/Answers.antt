-- `new` starts with the point given, scored as the others are. Assumes nothing.
use mir.Facts.{to_z-of_z}
use Rattle.corners.specs.Finders.{left_most_from}
use Rattle.corners.proofs.left_most.LeftMostFinder.new.Goals as goal

pub returns : goal.returns
unfolding left_most_from
returns c = rw (to_z-of_z (record { sfits = c.left_of.type_inv }), c.left_of.ensures)
