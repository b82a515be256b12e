-- `taken` takes each case of a fit. Assumes nothing.
use native.Mathlib.Omega.{arith}
use Rattle.laid.specs.Laid.{told, added}
use Rattle.locations.proofs.held.taken.Goals as goal

pub returns-in-Ok-Some : goal.returns-in-Ok-Some
unfolding added
returns-in-Ok-Some c = (rw (c.in-Ok-Some.is, (rw c.in-Ok-Some.is at c.in-Ok-Some.field-0-is)) c.with_grid.ensures.0, c.with_grid.ensures.1, c.with_grid.ensures.2, omega (arith, c.with_grid.ensures.3))

pub returns-in-Ok-None : goal.returns-in-Ok-None
unfolding added
returns-in-Ok-None c = (rw (c.in-Ok-None.is, (rw c.in-Ok-None.is at c.in-Ok-None.field-0-is)) c.with_table.ensures.0, c.with_table.ensures.1, c.with_table.ensures.2, omega (arith, c.with_table.ensures.3))

pub returns-in-Err : goal.returns-in-Err
unfolding told added
returns-in-Err c = (rw c.in-Err.is c.none.ensures.0, c.none.ensures.1, c.none.ensures.2, omega (arith, c.none.ensures.3))
