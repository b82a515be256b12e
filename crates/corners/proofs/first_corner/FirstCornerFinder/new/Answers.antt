-- `new` starts with no point, and with a score that every point beats. Assumes nothing.
use mathlib.Core.Path.{refl}
use Rattle.corners.specs.Finders.{first_corner_from}
use Rattle.corners.proofs.first_corner.FirstCornerFinder.new.Goals as goal

pub returns : goal.returns
unfolding first_corner_from
returns c = refl
