-- `put_grid` puts the size, the coefficients, the bounds and a line feed. Assumes nothing.
use native.Mathlib.Omega.{arith}
use Rattle.report.specs.Lines.{grid_line}
use Rattle.report.proofs.Putting.{puts_then, puts_within}
use Rattle.report.proofs.Decimals.{byte_short}
use Rattle.report.proofs.put_grid.Goals as goal

pub decimal-a0-requires : goal.decimal-a0-requires
decimal-a0-requires c = let few = byte_short c.args.line.size (omega arith) in omega (arith, few)

pub coefficients-a1-requires : goal.coefficients-a1-requires
coefficients-a1-requires c = let few = byte_short c.args.line.size (omega arith) in omega (arith, few)

pub bounds-a2-requires : goal.bounds-a2-requires
bounds-a2-requires c = let few = byte_short c.args.line.size (omega arith) in omega (arith, few)

pub byte-requires : goal.byte-requires
byte-requires c = let few = byte_short c.args.line.size (omega arith) in omega (arith, few)

pub returns : goal.returns
unfolding grid_line
returns c =
    let few = byte_short c.args.line.size (omega arith) in
    puts_within _ (omega (arith, few)) (puts_then c.decimal-a0.ensures (puts_then c.coefficients-a1.ensures (puts_then c.bounds-a2.ensures c.byte.ensures)))
