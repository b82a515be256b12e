-- `expect_picture` expects both sums. Assumes nothing.
use Rattle.vectors.specs.Checks.{summed_up}
use Rattle.vectors.proofs.checks.expect_picture.Goals as goal

pub returns : goal.returns
unfolding summed_up
returns c =
    rw (c.expect.ensures, c.sum-2.ensures, c.expect-first.ensures, c.sum.ensures)
