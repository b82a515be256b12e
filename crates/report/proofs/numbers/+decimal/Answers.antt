-- `decimal` puts the digits of the tenth, then the last digit. Assumes nothing.
use Rattle.std.proofs.Common.{ap, length, arith}
use Rattle.report.proofs.Putting.{puts_then, puts_exactly}
use Rattle.report.proofs.Decimals.{decimal_one, decimal_more, decimal_longer}
use Rattle.report.proofs.numbers.+decimal.Goals as goal

pub byte-requires : goal.byte-requires
byte-requires t c = omega (arith, ap length (decimal_one c.args.n c.if-n-lt10.true))

pub returns-then-n-lt10 : goal.returns-then-n-lt10
returns-then-n-lt10 t c = rw (decimal_one c.args.n c.if-n-lt10.true) c.byte.ensures

pub decimal-after-requires : goal.decimal-after-requires
decimal-after-requires t c = (omega arith, omega (arith, decimal_longer c.args.n c.if-n-lt10.false))

pub byte-requires-2 : goal.byte-requires-2
byte-requires-2 t c = omega (arith, decimal_longer c.args.n c.if-n-lt10.false)

pub returns : goal.returns
returns t c = rw (decimal_more c.args.n c.if-n-lt10.false) (puts_exactly (puts_then c.decimal-after.ensures c.byte-2.ensures))
