-- `claim` tells what a claim answers, once there are places for its counts. Assumes nothing.
use mathlib.Core.Path.{refl}
use Rattle.told_claims.specs.Claims.{short, claims}
use Rattle.told.proofs.Tell.{tell_refused}
use Rattle.told_claims.proofs.claims.claim.Goals as goal

pub returns-then-counts-lt3 : goal.returns-then-counts-lt3
returns-then-counts-lt3 c = short c.if-counts-lt3.true (tell_refused 3 _) refl

pub returns : goal.returns
returns c = claims c.if-counts-lt3.false _ c.claim.ensures c.put_claimed.ensures
