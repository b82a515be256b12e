-- `jiggle_perspective` makes one pass after the other, with adjustments halved in between. Assumes nothing.
use native.Mathlib.Numerals.{add-one}
use native.Mathlib.Omega.{arith}
use mathlib.Core.Path.{◌≡◌, refl}
use Rattle.cell_fitness.proofs.Decimals.{five_tenths}
use Rattle.refine.specs.Adjust.{adjustments}
use Rattle.refine.specs.Refine.{passes, refined}
use Rattle.refine.proofs.Steps.{two_hundredths}
use Rattle.refine.proofs.jiggle_perspective.Goals as goal

pub loop-init : goal.loop-init
unfolding adjustments passes
loop-init c = (refl, refl)

pub loop-preserved : goal.loop-preserved
unfolding adjustments passes
loop-preserved c =
    (rw (c.scaled-steps-in-loop.ensures, c.loop.invariant.0, five_tenths, add-one), rw (c.pass-best.ensures, c.loop.invariant.1, c.loop.invariant.0, add-one))

pub returns : goal.returns
unfolding refined
returns c =
    let last : c.loop.counter ≡ 5 = omega arith in
    rw (c.loop.invariant.1, last, c.scaled-steps.ensures, two_hundredths, c.scored-best.ensures, c.fitness_all.ensures.is)
