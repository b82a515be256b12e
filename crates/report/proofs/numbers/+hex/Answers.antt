-- `hex` puts the digits of the sixteenth, then the last digit. Assumes nothing.
use Rattle.std.proofs.Common.{refl, arith}
use Rattle.report.proofs.Putting.{puts_then, puts_within}
use Rattle.report.proofs.Hexes.{hex_none, hex_more}
use Rattle.report.proofs.numbers.+hex.Goals as goal

pub returns-then-places-eq0 : goal.returns-then-places-eq0
returns-then-places-eq0 t c =
    rw (hex_none c.args.places c.args.n c.if-places-eq0.true) (record { stored = refl; place = omega arith; short = omega arith })

pub returns : goal.returns
returns t c =
    let whole = puts_then c.hex-after.ensures c.byte.ensures in
    rw (hex_more c.args.places c.args.n (omega arith), ← c.hex_digit-last.ensures) (puts_within c.args.places (omega arith) whole)
