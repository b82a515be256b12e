-- `expect_float` expects the bits. Assumes nothing.
use Rattle.vectors.proofs.checks.expect_float.Goals as goal

pub returns : goal.returns
returns c = rw (c.expect.ensures, c.f64_to_bits_with_nan.ensures)
