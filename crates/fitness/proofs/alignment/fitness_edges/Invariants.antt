-- `fitness_edges` takes one position after the other. Assumes nothing.
use Prim.Native.Nat.{◌+◌, ◌-◌, ◌*◌, ◌≤◌}
use Rattle.version_db.specs.AnnexE.{position_of}
use Rattle.fitness.specs.Expected.{each, edge}
use Rattle.cell_fitness.specs.Scores.{Scores}
use Rattle.fitness.specs.Fitness.{score_of}
use Rattle.fitness.proofs.alignment.fitness_edges.Given as goal

abbrev pub invariant-loop-k : goal.invariant-loop-k
invariant-loop-k l =
    (l.k - 1 ≤ l.n - 2) × Scores (score_of l.pic l.width l.height l.c (each (l.k - 1) (λ i. edge (position_of l.version (1 + i))))) (450 * (l.k - 1)) l.score
