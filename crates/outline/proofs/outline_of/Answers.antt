-- `outline_of` puts the stones in order and turns them. Assumes nothing.
use Rattle.std.proofs.Common.{arith}
use Rattle.std.proofs.lemmas.Grind.{common_steps}
use Rattle.groups.specs.Orient.{oriented}
use Rattle.groups.proofs.Orientation.{oriented_turnable, oriented_cornered}
use Rattle.groups.proofs.Rotations.{rotated_cornered}
use Rattle.outline.proofs.outline_of.Goals as goal

pub rotate_group-requires : goal.rotate_group-requires
rotate_group-requires c =
    rw c.orient-o.ensures (oriented_turnable c.args.group c.requires.fact_2 c.requires.fact_3)

pub outline_turned-requires-clause-fact_2 : goal.outline_turned-requires-clause-fact_2
outline_turned-requires-clause-fact_2 c =
    rotated_cornered (oriented c.args.group) _ (grind (arith, common_steps)) (oriented_cornered c.args.group c.requires.fact_3)
