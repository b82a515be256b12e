-- `in_pixels` takes a pixel or breaks. Assumes nothing.
use mathlib.Core.Path.{sym, ◌∙◌}
use Rattle.netpbm.specs.Machine.{in_pixels}
use Rattle.netpbm.proofs.step.in_pixels.Goals as goal

pub returns-then-takes_pixel : goal.returns-then-takes_pixel
unfolding in_pixels
returns-then-takes_pixel c = rw (sym c.takes_pixel.ensures ∙ c.if-takes_pixel.true)

pub returns-else-takes_pixel : goal.returns-else-takes_pixel
unfolding in_pixels
returns-else-takes_pixel c = rw (sym c.takes_pixel.ensures ∙ c.if-takes_pixel.false)
