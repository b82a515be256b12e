-- `draw_bits` sets pixel after pixel. Assumes nothing.
use borrow.Author.Rules.{rules}
use Rattle.vectors.specs.Pictures.{bit_at}
use Rattle.vectors.proofs.Drawing.{draws, draws_on, drawn}
use Rattle.vectors.proofs.pictures.draw_bits.Goals as goal

pub loop-i-init : goal.loop-i-init
loop-i-init c = draws (bit_at c.args.text.now) c.args.pic.now

pub loop-i-preserved : goal.loop-i-preserved
unfolding bit_at
loop-i-preserved c =
    draws_on (bit_at c.args.text.now) _ c.loop-i.i c.loop-i.pic _ (search rules) (rw (c.bit_of.ensures, c.digit_at-digit.ensures.0)) c.loop-i.invariant

pub returns : goal.returns
returns c = drawn (bit_at c.args.text.now) _ c.loop-i.i c.loop-i.pic (search rules) c.loop-i.invariant
