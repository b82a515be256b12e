-- `completed` adds up the parts that are left. Assumes nothing.
use Rattle.beyond.proofs.Grid.{all_seen}
use Rattle.beyond.proofs.parts.completed.Goals as goal

pub returns : goal.returns
returns c =
    rw (c.plus-2.ensures.is, c.plus.ensures.is, c.fitness_capstone-first.ensures.is, c.fitness_edges-edges.ensures.is, c.requires.fact_2.is, all_seen _ _ _ c.args.c c.args.size c.requires.fact_1)
