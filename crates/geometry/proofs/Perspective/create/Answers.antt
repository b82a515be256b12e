-- `create` judges the corners as floats. Assumes nothing.
use Rattle.geometry.specs.Create.{sight_of}
use Rattle.geometry.proofs.Perspective.create.Goals as goal

pub returns : goal.returns
unfolding sight_of
returns c = rw (c.judge.ensures, c.corners_of.ensures)
