-- `with_size` goes by where the lines meet. Assumes nothing.
use Rattle.outline.specs.Outline.{met_outline, crossed_outline}
use Rattle.outline.proofs.with_size.Goals as goal

pub returns-in_default : goal.returns-in_default
unfolding crossed_outline met_outline
returns-in_default c = rw (← c.line_intersect.ensures, c.in_default.is)

pub returns : goal.returns
unfolding crossed_outline met_outline
returns c = rw (← c.line_intersect.ensures, c.in-Some.is) c.with_corner.ensures
