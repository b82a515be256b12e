-- `draw_bytes` sets pixel after pixel. Assumes nothing.
use borrow.Author.Rules.{rules}
use Rattle.vectors.specs.Pictures.{byte_at}
use Rattle.vectors.proofs.Drawing.{draws, draws_on, drawn}
use Rattle.vectors.proofs.pictures.draw_bytes.Goals as goal

pub loop-i-init : goal.loop-i-init
loop-i-init c = draws (byte_at c.args.text.now) c.args.pic.now

pub loop-i-preserved : goal.loop-i-preserved
unfolding byte_at
loop-i-preserved c =
    draws_on
    (byte_at c.args.text.now)
    _
    c.loop-i.i
    c.loop-i.pic
    _
    (search rules)
    (rw (c.byte_of.ensures, c.digit_at-high.ensures.0, c.digit_at-low.ensures.0))
    c.loop-i.invariant

pub returns : goal.returns
returns c = drawn (byte_at c.args.text.now) _ c.loop-i.i c.loop-i.pic (search rules) c.loop-i.invariant
