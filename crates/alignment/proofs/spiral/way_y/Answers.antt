-- `way_y` reads the direction. Assumes nothing.
use borrow.Author.Tests.{ne_eqb}
use Rattle.alignment.specs.Spiral.{way_y}
use Rattle.alignment.proofs.spiral.way_y.Goals as goal

pub returns-in-1 : goal.returns-in-1
unfolding way_y
returns-in-1 c = rw c.in-1.is

pub returns-in-3 : goal.returns-in-3
unfolding way_y
returns-in-3 c = rw c.in-3.is

pub returns-in_default : goal.returns-in_default
unfolding way_y
returns-in_default c = rw (ne_eqb _ 1 c.in_default.in_default-own.rest.0.1, ne_eqb _ 3 c.in_default.in_default-own.rest.1)
