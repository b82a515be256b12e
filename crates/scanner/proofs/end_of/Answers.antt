-- `end_of` stops at the first pixel of the other shade, or at the end of the line. Assumes nothing.
use native.Mathlib.Omega.{arith}
use mathlib.Core.Path.{◌≡◌, sym, ◌∙◌}
use Rattle.scanner.proofs.RunEnds.{on_shade, off_shade, goes_on, ends_here, ends_last}
use Rattle.scanner.proofs.end_of.Goals as goal

pub returns-then-pic-base : goal.returns-then-pic-base
returns-then-pic-base c =
    sym (c.loop-end.invariant ∙ ends_here c.args.is_dark _ _ _ c.loop-end.end c.loop-end-test.true (off_shade _ _ c.if-pic-base.true))

pub loop-end-preserved : goal.loop-end-preserved
loop-end-preserved c =
    c.loop-end.invariant ∙ goes_on c.args.is_dark _ _ _ c.loop-end.end c.loop-end-test.true (on_shade _ _ c.if-pic-base.false)

pub returns : goal.returns
returns c =
    let all : c.loop-end.end ≡ c.args.width = omega (arith, c.loop-end.auto.end-end c.requires.0) in
    sym (rw all at (c.loop-end.invariant ∙ ends_last c.args.is_dark _ _ _ c.loop-end.end c.loop-end-test.false))
