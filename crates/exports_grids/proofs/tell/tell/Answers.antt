-- `tell` writes a grid or that there is none, or tells a refusal's number. Assumes nothing.
use mathlib.Core.Path.{refl}
use Rattle.exports_grids.specs.Tells.{status_of, counts_after, floats_after}
use Rattle.exports_grids.proofs.tell.tell.Goals as goal

pub returns-in-Ok-Some : goal.returns-in-Ok-Some
unfolding status_of counts_after floats_after
returns-in-Ok-Some c =
    rw (c.in-Ok-Some.is, (rw c.in-Ok-Some.is at c.in-Ok-Some.field-0-is)) c.put_grid.ensures

pub returns-in-Ok-None : goal.returns-in-Ok-None
unfolding status_of counts_after floats_after
returns-in-Ok-None c =
    rw (c.in-Ok-None.is, (rw c.in-Ok-None.is at c.in-Ok-None.field-0-is)) (c.put_none.ensures.0, c.put_none.ensures.1, refl)

pub returns-in-Err : goal.returns-in-Err
unfolding status_of counts_after floats_after
returns-in-Err c = rw c.in-Err.is (c.from.ensures, refl, refl)
