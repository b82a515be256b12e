-- `judge` refuses a point that is not near. Assumes nothing.
use mathlib.Core.Path.{sym, ◌∙◌}
use Rattle.stated.specs.Stated.{judged}
use Rattle.stated.proofs.judge.Goals as goal

pub returns-then-not-is_near : goal.returns-then-not-is_near
unfolding judged
returns-then-not-is_near c = rw (sym c.is_near.ensures ∙ c.if-not-is_near.true)

pub returns : goal.returns
unfolding judged
returns c = rw (sym c.is_near.ensures ∙ c.if-not-is_near.false)
