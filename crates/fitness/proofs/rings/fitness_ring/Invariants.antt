-- `fitness_ring` goes once round: a turn of the loop adds one cell on each side. Assumes nothing.
use Prim.Native.Nat.{◌*◌}
use Rattle.fitness.specs.Expected.{dark, each, sides}
use Rattle.cell_fitness.specs.Scores.{Scores}
use Rattle.fitness.specs.Fitness.{score_of}
use Rattle.fitness.proofs.rings.fitness_ring.Given as goal

abbrev pub invariant-loop-i : goal.invariant-loop-i
invariant-loop-i l =
    Scores (score_of l.pic l.width l.height l.c (each l.i (sides dark l.cx l.cy l.radius))) (36 * l.i) l.score
