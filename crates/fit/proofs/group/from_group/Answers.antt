-- `from_group` knows nothing of a setup. Assumes nothing.
use Rattle.setups.proofs.Known.{blank_remembers}
use Rattle.fit.proofs.group.from_group.Goals as goal

pub refit-done-requires : goal.refit-done-requires
refit-done-requires c =
    (c.requires.0, c.requires.1, c.requires.2, blank_remembers c.no_setup-known.ensures)

pub returns : goal.returns
returns c = c.refit-done.ensures.0
