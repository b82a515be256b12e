-- `way_x` reads the direction. Assumes nothing.
use borrow.Author.Tests.{ne_eqb}
use Rattle.alignment.specs.Spiral.{way_x}
use Rattle.alignment.proofs.spiral.way_x.Goals as goal

pub returns-in-0 : goal.returns-in-0
unfolding way_x
returns-in-0 c = rw c.in-0.is

pub returns-in-2 : goal.returns-in-2
unfolding way_x
returns-in-2 c = rw c.in-2.is

pub returns-in_default : goal.returns-in_default
unfolding way_x
returns-in_default c = rw (ne_eqb _ 0 c.in_default.in_default-own.rest.0.1, ne_eqb _ 2 c.in_default.in_default-own.rest.1)
