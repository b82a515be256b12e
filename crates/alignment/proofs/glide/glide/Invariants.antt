-- `glide` goes from pass to pass, until a glance does not settle one, or the leg is too long. Assumes nothing.
use Rattle.alignment.specs.Spiral.{passes_left}
use Rattle.alignment.proofs.Gliding.{OnTheWay}
use Rattle.alignment.proofs.glide.glide.Given as goal

abbrev pub invariant-loop-pass : goal.invariant-loop-pass
invariant-loop-pass l = OnTheWay l.pic l.width l.height l.estimate l.passed l.initial.pass l.initial.at l.pass l.at

abbrev pub decreases-loop-pass : goal.decreases-loop-pass
decreases-loop-pass l = passes_left l.pass
