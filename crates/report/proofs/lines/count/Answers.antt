-- `count` puts word, space, number and line feed. Assumes nothing.
use native.Mathlib.Omega.{arith}
use Rattle.report.specs.Lines.{count_line}
use Rattle.report.proofs.Putting.{puts_then, puts_within}
use Rattle.report.proofs.Decimals.{word_short}
use Rattle.report.proofs.lines.count.Goals as goal

pub decimal-a2-requires : goal.decimal-a2-requires
decimal-a2-requires c = let few = word_short _ c.ranges.n.fits in omega (arith, few)

pub byte-requires : goal.byte-requires
byte-requires c = let few = word_short _ c.ranges.n.fits in omega (arith, few)

pub returns : goal.returns
unfolding count_line
returns c =
    let few = word_short _ c.ranges.n.fits in
    puts_within _ (omega (arith, few)) (puts_then c.word-a0.ensures (puts_then c.byte-a1.ensures (puts_then c.decimal-a2.ensures c.byte.ensures)))
