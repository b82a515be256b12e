-- `pass` makes one trial after the other. Assumes nothing.
use mathlib.Core.Path.{◌≡◌}
use Rattle.fitness.specs.Fitness.{fitness_of}
use Rattle.refine.specs.Refine.{meaning, trials}
use Rattle.refine.proofs.trial.pass.Given as goal

abbrev pub invariant-loop-i : goal.invariant-loop-i
invariant-loop-i l =
    meaning l.best ≡ trials (fitness_of l.pic l.width l.height l.size) l.steps l.i (meaning l.initial.best)
