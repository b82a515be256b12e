-- `taken` takes each case of a trial. Assumes nothing.
use Rattle.laid.specs.Laid.{told}
use Rattle.setups.proofs.Known.{blanks_remember, one_remembered}
use Rattle.groupings.specs.Groups.{after_trial}
use Rattle.groupings.proofs.held.taken.Goals as goal

pub returns-in-Ok-Some : goal.returns-in-Ok-Some
unfolding after_trial
returns-in-Ok-Some c =
    (rw (c.in-Ok-Some.is, (rw c.in-Ok-Some.is at c.in-Ok-Some.field-0-is)) c.with_group.ensures.0, c.with_group.ensures.1, λ p w h A R. rw c.with_group.ensures.2 (one_remembered c.args.held.setups c.args.held.n c.args.answer.setup A R))

pub returns-in-Ok-None : goal.returns-in-Ok-None
unfolding after_trial
returns-in-Ok-None c = (rw (c.in-Ok-None.is, (rw c.in-Ok-None.is at c.in-Ok-None.field-0-is)) c.requires.0.going, c.requires.0.laid, λ p w h A R. A)

pub returns-in-Err : goal.returns-in-Err
unfolding after_trial told
returns-in-Err c = (rw c.in-Err.is c.none.ensures.0, c.none.ensures.1, λ p w h A R. blanks_remember 31 c.none.ensures.2)
