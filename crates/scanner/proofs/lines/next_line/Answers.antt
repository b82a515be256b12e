-- `next_line` stops at the first line that has a cut, or below the last line. Assumes nothing.
use native.Mathlib.Omega.{arith}
use mathlib.Core.Path.{◌≡◌, sym, ◌∙◌}
use Rattle.pieces.proofs.Index.{line_fits}
use Rattle.scanner.proofs.NextLine.{line_here, line_on, line_last}
use Rattle.scanner.proofs.lines.next_line.Goals as goal

pub overflow_mul-line : goal.overflow_mul-line
overflow_mul-line c =
    omega (arith, line_fits c.args.width c.args.height c.args.pic.now c.requires.2 c.loop-line.line c.loop-line-test.true)

pub has_cut-requires : goal.has_cut-requires
has_cut-requires c =
    (c.requires.1, line_fits c.args.width c.args.height c.args.pic.now c.requires.2 c.loop-line.line c.loop-line-test.true)

pub returns-then-has_cut : goal.returns-then-has_cut
returns-then-has_cut c =
    sym (c.loop-line.invariant ∙ line_here _ _ _ c.loop-line.line c.loop-line-test.true (sym c.has_cut.ensures ∙ c.if-has_cut.true))

pub loop-line-preserved : goal.loop-line-preserved
loop-line-preserved c =
    c.loop-line.invariant ∙ line_on _ _ _ c.loop-line.line c.loop-line-test.true (sym c.has_cut.ensures ∙ c.if-has_cut.false)

pub returns : goal.returns
returns c =
    let all : c.loop-line.line ≡ c.args.height = omega (arith, c.loop-line.auto.line-end c.requires.0) in
    sym (rw all at (c.loop-line.invariant ∙ line_last _ _ _ c.loop-line.line c.loop-line-test.false))
