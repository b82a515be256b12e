-- `paint_run` paints n bytes: a single one at once, else the k first of them after k turns. Assumes nothing.
use mathlib.Core.Path.{◌≡◌}
use Rattle.fill.specs.Order.{paint_run}
use Rattle.fill.proofs.runs.paint_run.Given as goal

abbrev pub invariant-loop-k : goal.invariant-loop-k
invariant-loop-k l = l.pic ≡ paint_run l.initial.pic l.at l.k l.to
