-- `jiggle_perspective` makes one pass after the other, with adjustments halved in between. Assumes nothing.
use mathlib.Core.Path.{◌≡◌}
use Rattle.fitness.specs.Fitness.{fitness_of}
use Rattle.refine.specs.Adjust.{adjustments}
use Rattle.refine.specs.Refine.{meaning, passes}
use Rattle.refine.proofs.jiggle_perspective.Given as goal

abbrev pub invariant-loop : goal.invariant-loop
invariant-loop l =
    (l.steps ≡ adjustments l.initial.steps l.counter) × (meaning l.best ≡ passes (fitness_of l.pic l.width l.height l.size) l.initial.steps l.counter (meaning l.initial.best))
