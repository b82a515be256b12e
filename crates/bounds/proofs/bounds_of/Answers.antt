-- `bounds_of` maps the four bounds. Assumes nothing.
use lib.Ieee.{of_bits}
use Rattle.bounds.specs.Bounds.{bounded_of}
use Rattle.bounds.proofs.bounds_of.Goals as goal

pub returns : goal.returns
unfolding bounded_of of_bits
returns c =
    rw (← c.map-b0.ensures, ← c.map-b1.ensures, ← c.map-b2.ensures, ← c.map-b3.ensures) c.with_bounds.ensures
