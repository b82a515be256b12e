-- `next_cut` goes on along a line, and down to the next that has a cut. Assumes nothing.
use native.Mathlib.Omega.{arith}
use mathlib.Core.Path.{subst}
use Rattle.pieces.proofs.Index.{line_fits}
use Rattle.scanner.specs.Scan.{Comes}
use Rattle.marks.proofs.Lines.{next_from, pending_begun, pending_cut, pending_down, pending_ends}
use Rattle.marks.proofs.cuts.next_cut.Goals as goal

pub loop-y-init : goal.loop-y-init
loop-y-init c = pending_begun c.requires.1 c.requires.2

pub overflow_mul-base : goal.overflow_mul-base
overflow_mul-base c =
    omega (arith, line_fits c.args.width c.args.height c.args.pic.now c.requires.0.whole c.loop-y.y c.loop-y-test.true)

pub advance-requires : goal.advance-requires
advance-requires c =
    (c.loop-y.invariant.on, c.requires.0.wide, line_fits c.args.width c.args.height c.args.pic.now c.requires.0.whole c.loop-y.y c.loop-y-test.true)

pub returns-in-Some : goal.returns-in-Some
returns-in-Some c =
    pending_cut c.loop-y.invariant c.loop-y-test.true (subst (Comes _ _ _ _) c.in-Some.is c.advance.ensures)

pub next_line-y-requires : goal.next_line-y-requires
next_line-y-requires c =
    (omega (arith, c.loop-y-test.true), c.requires.0.wide, c.requires.0.whole)

pub loop-y-smaller : goal.loop-y-smaller
loop-y-smaller c = omega (arith, c.loop-y-test.true, next_from _ _ _ _ c.next_line-y.ensures)

pub loop-y-preserved : goal.loop-y-preserved
loop-y-preserved c =
    pending_down c.loop-y.invariant c.loop-y-test.true (subst (Comes _ _ _ _) c.in-None.is c.advance.ensures) c.next_line-y.ensures c.new-scan.ensures

pub returns : goal.returns
returns c = pending_ends c.loop-y.invariant c.loop-y-test.false
