-- `paint_number` paints the piece and answers its entry: what the fill counts is the piece's pixels. Assumes nothing.
use native.Mathlib.Omega.{arith}
use Rattle.regions.proofs.Asks.{few_pixels, measured}
use Rattle.regions.proofs.number.paint_number.Goals as goal

pub overflow_cast-pixels : goal.overflow_cast-pixels
overflow_cast-pixels c =
    omega (arith, few_pixels c.requires.0 c.paint_and_count-counts.ensures.1)

pub returns : goal.returns
returns c =
    (measured c.requires.0 c.paint_and_count-counts.ensures.1, c.paint_and_count-counts.ensures.0)
