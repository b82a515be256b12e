-- `fit_one` fits the group that a trio names, and takes what it comes to. Assumes nothing.
use mathlib.Core.Path.{sym, subst}
use Rattle.groups.specs.Group.{Centred, Cornered}
use Rattle.groups.specs.declared.CapStoneGroup.{CapStoneGroup}
use Rattle.locations.proofs.Passing.{takes}
use Rattle.locations.proofs.pass.fit_one.Goals as goal

pub group_of-group-requires : goal.group_of-group-requires
group_of-group-requires c = c.requires.1.low

pub refit-fitted-requires : goal.refit-fitted-requires
refit-fitted-requires c =
    let is = sym c.group_of-group.ensures in
    (c.requires.0, subst (λ (g : CapStoneGroup). Centred g) is c.requires.1.centred, subst (λ (g : CapStoneGroup). Cornered g) is c.requires.1.cornered, c.requires.4)

pub returns : goal.returns
returns c =
    takes c.group_of-group.ensures c.refit-fitted.ensures.0 c.taken.ensures
