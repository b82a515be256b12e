-- `tell` writes what is found, or tells a refusal's number. Assumes nothing.
use mathlib.Core.Path.{refl}
use Rattle.exports_detect.specs.Tells.{counts_after, places_after, floats_after, status_of}
use Rattle.exports_detect.proofs.tell.Goals as goal

pub returns-in-Ok : goal.returns-in-Ok
unfolding status_of counts_after places_after floats_after
returns-in-Ok c =
    rw c.in-Ok.is c.put_found.ensures

pub returns-in-Err : goal.returns-in-Err
unfolding status_of counts_after places_after floats_after
returns-in-Err c = rw c.in-Err.is (c.from.ensures, refl, refl, refl)
