-- `keep_in` writes to the place of the next pixel, which is there. Assumes nothing.
use mathlib.Core.Path.{sym, ◌∙◌}
use native.Mathlib.Omega.{arith}
use Rattle.netpbm.specs.Machine.{kept_in}
use Rattle.netpbm.proofs.Numbers.{bit_range, takes_pixel_told}
use Rattle.netpbm.proofs.step.keep_in.Goals as goal

pub returns-then-not-takes_pixel : goal.returns-then-not-takes_pixel
unfolding kept_in
returns-then-not-takes_pixel c = rw (sym c.takes_pixel.ensures ∙ c.if-not-takes_pixel.true)

pub overflow_sub-pixels : goal.overflow_sub-pixels
overflow_sub-pixels c = (bit_range _ (takes_pixel_told _ _ (sym c.takes_pixel.ensures ∙ c.if-not-takes_pixel.false)).1).0

pub bounds-pixels-at : goal.bounds-pixels-at
bounds-pixels-at c =
    let t = takes_pixel_told _ _ (sym c.takes_pixel.ensures ∙ c.if-not-takes_pixel.false) in
    omega (arith, t.0, c.requires.0.sides, c.requires.1)

pub returns : goal.returns
unfolding kept_in
returns c = rw (sym c.takes_pixel.ensures ∙ c.if-not-takes_pixel.false)
