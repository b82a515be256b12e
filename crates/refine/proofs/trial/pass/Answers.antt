-- `pass` makes one trial after the other. Assumes nothing.
use native.Mathlib.Numerals.{add-one}
use native.Mathlib.Omega.{arith}
use mathlib.Core.Path.{◌≡◌, refl}
use Rattle.refine.specs.Refine.{trials}
use Rattle.refine.proofs.trial.pass.Goals as goal

pub loop-i-init : goal.loop-i-init
unfolding trials
loop-i-init c = refl

pub loop-i-preserved : goal.loop-i-preserved
unfolding trials
loop-i-preserved c = rw (c.trial-best.ensures, c.loop-i.invariant, add-one)

pub returns : goal.returns
returns c =
    let last : c.loop-i.i ≡ 16 = omega arith in
    rw (← last) c.loop-i.invariant
