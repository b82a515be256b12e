-- `set_up` takes what is known, or sets up. Assumes nothing.
use Rattle.setups.proofs.Known.{taken_again}
use Rattle.setups.proofs.set_up.Goals as goal

pub returns-then-is_made_of : goal.returns-then-is_made_of
returns-then-is_made_of c =
    let same = c.is_made_of.ensures c.if-is_made_of.true in
    (taken_again c.requires.fact_3 c.requires.fact_2 same, c.requires.fact_3)

pub returns : goal.returns
returns c =
    (c.setup_perspective-fit.ensures, c.remembered-setup.ensures _ _ _ c.setup_perspective-fit.ensures c.requires.fact_3)
