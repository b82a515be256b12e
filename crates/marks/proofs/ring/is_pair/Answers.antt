-- `is_pair` tests two unclaimed regions, and no others. Assumes nothing.
use mathlib.Core.Path.{ap}
use Rattle.regions.specs.Found.{meaning}
use Rattle.marks.specs.Ring.{paired}
use Rattle.marks.proofs.ring.is_pair.Goals as goal

pub is_suited-requires : goal.is_suited-requires
is_suited-requires c =
    let ring = rw c.in-Ok-Unclaimed.is at c.in-Ok-Unclaimed.field-0-is in
    let stone = rw c.in-Ok-Unclaimed-inner.is at c.in-Ok-Unclaimed-inner.field-0-is in
    (c.requires.0 _ (ap meaning (rw ring at c.in-Ok-Unclaimed.is)), c.requires.1 _ (ap meaning (rw stone at c.in-Ok-Unclaimed-inner.is)))

pub returns-in-Ok-Unclaimed-inner : goal.returns-in-Ok-Unclaimed-inner
unfolding paired
returns-in-Ok-Unclaimed-inner c =
    let ring = rw c.in-Ok-Unclaimed.is at c.in-Ok-Unclaimed.field-0-is in
    let stone = rw c.in-Ok-Unclaimed-inner.is at c.in-Ok-Unclaimed-inner.field-0-is in
    rw (c.in-Ok-Unclaimed.is, ring, c.in-Ok-Unclaimed-inner.is, stone) c.is_suited.ensures

pub returns-in-Ok-Claimed-inner : goal.returns-in-Ok-Claimed-inner
unfolding paired
returns-in-Ok-Claimed-inner c =
    let ring = rw c.in-Ok-Unclaimed.is at c.in-Ok-Unclaimed.field-0-is in
    let stone = rw c.in-Ok-Claimed-inner.is at c.in-Ok-Claimed-inner.field-0-is in
    rw (c.in-Ok-Unclaimed.is, ring, c.in-Ok-Claimed-inner.is, stone)

pub returns-in-Err-inner : goal.returns-in-Err-inner
unfolding paired
returns-in-Err-inner c =
    let ring = rw c.in-Ok-Unclaimed.is at c.in-Ok-Unclaimed.field-0-is in
    rw (c.in-Ok-Unclaimed.is, ring, c.in-Err-inner.is)

pub returns-in-Ok-Claimed : goal.returns-in-Ok-Claimed
unfolding paired
returns-in-Ok-Claimed c =
    let ring = rw c.in-Ok-Claimed.is at c.in-Ok-Claimed.field-0-is in
    rw (c.in-Ok-Claimed.is, ring)

pub returns-in-Err : goal.returns-in-Err
unfolding paired
returns-in-Err c = rw c.in-Err.is
