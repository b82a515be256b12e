-- A point that the first corner's finder sees is scored by its distance. Assumes nothing.
use mir.Facts.{to_z-of_z}
use Rattle.corners.specs.Finders.{first_corner_sees}
use Rattle.corners.proofs.first_corner.FirstCornerFinderFinder.see.Goals as goal

pub returns : goal.returns
unfolding first_corner_sees
returns c = rw (c.raised.ensures, to_z-of_z (record { sfits = c.distance.type_inv }), c.distance.ensures)
