-- `leftmost` answers the left end: at each turn the end from where it stands is the end from x. Assumes nothing.
use Prim.Native.Nat.{◌+◌, ◌-◌}
use native.Mathlib.Omega.{arith}
use mathlib.Core.Path.{◌≡◌, sym, ◌∙◌}
use Rattle.fill.proofs.Ends.{left_in_at, left_out_at, left_zero}
use Rattle.fill.proofs.runs.leftmost.Goals as goal

pub returns-then-pic-base : goal.returns-then-pic-base
returns-then-pic-base c =
    let z : c.loop-k.k - 1 + 1 ≡ c.loop-k.k = omega arith in
    z ∙ sym (c.loop-k.invariant ∙ left_out_at _ _ _ _ _ c.requires.0 c.loop-k.k (c.loop-k.k - 1) (omega arith) c.if-pic-base.true)

pub loop-k-preserved : goal.loop-k-preserved
loop-k-preserved c = c.loop-k.invariant ∙ left_in_at _ _ _ _ _ c.requires.0 c.loop-k.k (c.loop-k.k - 1) (omega arith) c.if-pic-base.false

pub returns : goal.returns
returns c =
    let z : c.loop-k.k ≡ 0 = omega arith in
    rw (c.loop-k.invariant, z, left_zero)
