-- `over` meets its contract: a quotient is no larger than its dividend. Assumes nothing.
use native.Mathlib.Omega.{arith}
use lib.Signed.{quot_z}
use mir.Syntax.{w32}
use mir.Val.{SFits}
use mir.Facts.{to_z-of_z}
use Rattle.sizes.proofs.Size.{size_quot, fits_size, bits_size}
use Rattle.lines.proofs.over.Goals as goal

pub nonzero_div-result : goal.nonzero_div-result
nonzero_div-result c =
    let fits : SFits w32 (quot_z c.args.n c.args.d) = let h = size_quot c.args.n c.args.d in fits_size (omega arith) in
    (bits_size c.ranges.d c.requires.1, rw (to_z-of_z c.ranges.n, to_z-of_z c.ranges.d) (fits))

pub returns : goal.returns
returns c =
    let fits : SFits w32 (quot_z c.args.n c.args.d) = let h = size_quot c.args.n c.args.d in fits_size (omega arith) in
    rw (to_z-of_z c.ranges.n, to_z-of_z c.ranges.d) (to_z-of_z (fits))
