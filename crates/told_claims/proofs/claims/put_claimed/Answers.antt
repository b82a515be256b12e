-- `put_claimed` writes the counts of a claim that was made, and refuses as it does. Assumes nothing.
use Rattle.told_claims.specs.Claims.{count_values}
use Rattle.told.proofs.Tell.{tell_refused}
use Rattle.told_claims.proofs.claims.put_claimed.Goals as goal

pub returns-in-Ok : goal.returns-in-Ok
unfolding count_values
returns-in-Ok c = rw c.in-Ok.is c.put_counts.ensures

pub returns-in-Err : goal.returns-in-Err
unfolding count_values
returns-in-Err c = rw (c.in-Err.is, c.from.ensures) (tell_refused _ _)
