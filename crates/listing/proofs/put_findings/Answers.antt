-- `put_findings` goes by what is told. Assumes nothing.
use native.Mathlib.Omega.{arith}
use Rattle.detect.specs.Telling.{tells}
use Rattle.report.proofs.Putting.{puts_within}
use Rattle.listing.specs.Listing.{listing}
use Rattle.listing.proofs.put_findings.Goals as goal

pub put_found-requires : goal.put_found-requires
put_found-requires c = rw c.in-Ok.is at c.requires

pub returns-in-Ok : goal.returns-in-Ok
unfolding tells
returns-in-Ok c = rw c.in-Ok.is c.put_found.ensures

pub returns-in-Err : goal.returns-in-Err
unfolding listing
returns-in-Err c = rw (c.in-Err.is, ← c.from.ensures) (puts_within 7374 (omega arith) c.put_refused.ensures)
