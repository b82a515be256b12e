-- `tell` writes a claimed or an unclaimed region, or tells a refusal's number. Assumes nothing.
use mathlib.Core.Path.{refl}
use Rattle.exports_regions.specs.Tells.{status_of, counts_after}
use Rattle.exports_regions.proofs.tell.Goals as goal

pub put_claimed-requires : goal.put_claimed-requires
put_claimed-requires c =
    (c.requires.0, rw (c.in-Ok-Claimed.is, (rw c.in-Ok-Claimed.is at c.in-Ok-Claimed.field-0-is)) at c.requires.1)

pub returns-in-Ok-Claimed : goal.returns-in-Ok-Claimed
unfolding status_of counts_after
returns-in-Ok-Claimed c = rw (c.in-Ok-Claimed.is, (rw c.in-Ok-Claimed.is at c.in-Ok-Claimed.field-0-is)) c.put_claimed.ensures

pub returns-in-Ok-Unclaimed : goal.returns-in-Ok-Unclaimed
unfolding status_of counts_after
returns-in-Ok-Unclaimed c = rw (c.in-Ok-Unclaimed.is, (rw c.in-Ok-Unclaimed.is at c.in-Ok-Unclaimed.field-0-is)) c.put_unclaimed.ensures

pub returns-in-Err : goal.returns-in-Err
unfolding status_of counts_after
returns-in-Err c = rw c.in-Err.is (c.from.ensures, refl)
