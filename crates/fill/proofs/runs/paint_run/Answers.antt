-- `paint_run` paints n bytes: a single one at once, else the k first of them after k turns. Assumes nothing.
use Prim.Native.Nat.{ℕ, ◌+◌}
use native.Mathlib.Omega.{arith}
use mathlib.Core.Path.{◌≡◌, ap, ◌∙◌}
use mathlib.Core.List.{List}
use lib.ListN.{set}
use Rattle.fill.proofs.Painted.{paint_none, paint_one, paint_more}
use Rattle.fill.proofs.runs.paint_run.Goals as goal

pub returns-then-n-eq1 : goal.returns-then-n-eq1
returns-then-n-eq1 c = rw c.if-n-eq1.true (paint_one _ _ _)

pub loop-k-init : goal.loop-k-init
loop-k-init c = paint_none _ _ _

pub loop-k-preserved : goal.loop-k-preserved
loop-k-preserved c = ap (λ (p : List ℕ). set p (c.args.at + c.loop-k.k) c.args.to) c.loop-k.invariant ∙ paint_more _ _ _ _

pub returns : goal.returns
returns c =
    let z : c.loop-k.k ≡ c.args.n = omega arith in
    rw (← z) c.loop-k.invariant
