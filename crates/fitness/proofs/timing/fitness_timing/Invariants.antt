-- `fitness_timing` takes one place after the other. Assumes nothing.
use Prim.Native.Nat.{◌+◌, ◌-◌, ◌*◌}
use Rattle.fitness.specs.Expected.{each, crossing}
use Rattle.cell_fitness.specs.Scores.{Scores}
use Rattle.fitness.specs.Fitness.{score_of}
use Rattle.fitness.proofs.timing.fitness_timing.Given as goal

abbrev pub invariant-loop-k : goal.invariant-loop-k
invariant-loop-k l =
    Scores (score_of l.pic l.width l.height l.c (each (l.k - 7) (λ i. crossing (7 + i)))) (18 * (l.k - 7)) l.score
