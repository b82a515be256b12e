-- `put_sight` writes the coefficients of a perspective that was made, and nothing of a flat one. Assumes nothing.
use Rattle.told_points.specs.Answers.{sight_values}
use Rattle.told.proofs.Tell.{tell_nothing}
use Rattle.told_points.proofs.perspective.put_sight.Goals as goal

pub returns-in-Made : goal.returns-in-Made
unfolding sight_values
returns-in-Made c = rw c.in-Made.is c.coefficients.ensures

pub returns-in-Flat : goal.returns-in-Flat
unfolding sight_values
returns-in-Flat c = rw c.in-Flat.is (tell_nothing _)
