-- `entry_at` reads three numbers, each held to what its place holds. Assumes nothing.
use Rattle.told_places.specs.Lent.{entry_at}
use Rattle.told_places.proofs.lent.entry_at.Goals as goal

pub returns : goal.returns
unfolding entry_at
returns c =
    rw (c.at_most-px.ensures.0, c.at_most-y.ensures.0, c.at_most-x.ensures.0)
