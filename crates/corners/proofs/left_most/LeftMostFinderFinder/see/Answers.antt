-- A point that the leftmost finder sees is scored by how far to the left it lies. Assumes nothing.
use mir.Facts.{to_z-of_z}
use Rattle.corners.specs.Finders.{left_most_sees}
use Rattle.corners.proofs.left_most.LeftMostFinderFinder.see.Goals as goal

pub returns : goal.returns
unfolding left_most_sees
returns c = rw (c.raised.ensures, to_z-of_z (record { sfits = c.left_of.type_inv }), c.left_of.ensures)
