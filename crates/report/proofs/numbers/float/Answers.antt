-- `float` puts the bits. Assumes nothing.
use Rattle.report.specs.Numbers.{float}
use Rattle.report.proofs.numbers.float.Goals as goal

pub returns : goal.returns
unfolding float
returns c = rw (← c.f64_to_bits_with_nan.ensures) c.hex.ensures
