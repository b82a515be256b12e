-- `in_height` takes a digit or breaks. Assumes nothing.
use mathlib.Core.Path.{sym, ◌∙◌}
use Rattle.netpbm.specs.Machine.{in_height}
use Rattle.netpbm.proofs.step.in_height.Goals as goal

pub longer-requires : goal.longer-requires
longer-requires c = (c.requires, sym c.takes.ensures ∙ c.if-takes.true)

pub returns-then-takes : goal.returns-then-takes
unfolding in_height
returns-then-takes c = rw (sym c.takes.ensures ∙ c.if-takes.true, c.longer.ensures)

pub returns-else-takes : goal.returns-else-takes
unfolding in_height
returns-else-takes c = rw (sym c.takes.ensures ∙ c.if-takes.false)
