-- `signed` goes by the sign. Assumes nothing.
use native.Mathlib.Omega.{arith}
use mir.Facts.{to_z-of_z}
use Rattle.sizes.proofs.Size.{size_fits}
use Rattle.report.proofs.Putting.{puts_then, puts_within}
use Rattle.report.proofs.Decimals.{size_short}
use Rattle.report.proofs.Signs.{below_signed, from_signed}
use Rattle.report.proofs.numbers.signed.Goals as goal

pub decimal-requires : goal.decimal-requires
decimal-requires c =
    let size = rw (to_z-of_z c.ranges.z) at c.unsigned_abs-magnitude.ensures.value in
    let few = size_short c.unsigned_abs-magnitude.result (omega (arith, size, size_fits c.ranges.z)) in
    omega (arith, few)

pub returns-then-z-lt0 : goal.returns-then-z-lt0
returns-then-z-lt0 c =
    let back = to_z-of_z c.ranges.z in
    let size = rw back at c.unsigned_abs-magnitude.ensures.value in
    let few = size_short _ (size_fits c.ranges.z) in
    let text = below_signed c.args.z (rw back at c.if-z-lt0.true) in
    rw text (puts_within 11 (omega (arith, few)) (puts_then c.byte-after.ensures (rw size at c.decimal.ensures)))

pub decimal-requires-2 : goal.decimal-requires-2
decimal-requires-2 c =
    let size = rw (to_z-of_z c.ranges.z) at c.unsigned_abs-magnitude.ensures.value in
    let few = size_short c.unsigned_abs-magnitude.result (omega (arith, size, size_fits c.ranges.z)) in
    omega (arith, few)

pub returns : goal.returns
returns c =
    let back = to_z-of_z c.ranges.z in
    let size = rw back at c.unsigned_abs-magnitude.ensures.value in
    let few = size_short _ (size_fits c.ranges.z) in
    let text = from_signed c.args.z (rw back at c.if-z-lt0.false) in
    rw text (puts_within 11 (omega (arith, few)) (rw size at c.decimal-2.ensures))
