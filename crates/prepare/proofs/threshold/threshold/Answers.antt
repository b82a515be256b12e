-- `threshold` shades a picture row by row; the averages change sides after each. Assumes nothing.
use Prim.Native.Nat.{ℕ, ◌+◌, ◌-◌, ◌*◌, ◌≤◌}
use mathlib.Core.Path.{sym, ap, ◌∙◌}
use mathlib.Core.Bool.{true}
use native.Mathlib.Omega.{arith}
use Rattle.prepare.specs.Threshold.{span, thresholded}
use Rattle.prepare.specs.declared.averages.Ends.{Ends}
use Rattle.prepare.proofs.Rows.{onward_goes_on, onward_ends, turned, rows_turned}
use Rattle.prepare.proofs.threshold.threshold.Goals as goal

pub loop-y-preserved : goal.loop-y-preserved
loop-y-preserved c =
    let base : ℕ = c.loop-y.y * c.args.width in
    let some : 1 ≤ c.span-s.result = omega (arith, c.span-s.ensures) in
    onward_goes_on c.span-s.result c.args.width c.args.height c.args.pic.now c.loop-y.pic c.loop-y.lefts c.loop-y.rights c.loop-y.left c.loop-y.right base c.loop-y.y c.loop-y.invariant
    (base + c.args.width - base) ((c.loop-y.y + 1) * c.args.width) c.threshold_row-ends.new.row c.threshold_row-ends.new.lefts c.threshold_row-ends.new.rights c.threshold_row-ends.result.right c.threshold_row-ends.result.left
    c.loop-y-test.true some (omega arith) (omega arith) c.threshold_row-ends.ensures.1 c.threshold_row-ends.auto.row (λ i. omega (arith, c.type_inv.pic i))
    (ap (λ (e : Ends). e.right) c.threshold_row-ends.ensures.0) (ap (λ (e : Ends). e.left) c.threshold_row-ends.ensures.0)
    (c.threshold_row-ends.auto.lefts ∙ c.loop-y.invariant.lefts_long) (c.threshold_row-ends.auto.rights ∙ c.loop-y.invariant.rights_long)

pub returns : goal.returns
unfolding thresholded
returns c =
    onward_ends c.span-s.result c.args.width c.args.height c.args.pic.now c.loop-y.pic c.loop-y.lefts c.loop-y.rights c.loop-y.left c.loop-y.right (c.loop-y.y * c.args.width) c.loop-y.y c.loop-y.invariant c.loop-y-test.false
    ∙ ap (λ (s : ℕ). turned s c.args.width c.args.height 0 0 c.args.pic.now) c.span-s.ensures
    ∙ sym (rows_turned (span c.args.width) c.args.width c.args.height true 0 0 c.args.pic.now)
