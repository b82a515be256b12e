-- `once_each` is the test of OnceEach: it goes down and marks what it has seen. Assumes nothing.
use Prim.Native.Nat.{◌-◌}
use native.Mathlib.Omega.{arith}
use Rattle.table.proofs.Marks.{mark_begin, mark_large, mark_again, mark_more, mark_end}
use Rattle.table.proofs.age.once_each.Goals as goal

pub loop-i-init : goal.loop-i-init
loop-i-init c = mark_begin _ _ c.requires.0

pub returns-then-n-k : goal.returns-then-n-k
returns-then-n-k c = mark_large c.loop-i.invariant (omega arith) c.if-n-k.true

pub returns-then-seen-k : goal.returns-then-seen-k
returns-then-seen-k c = mark_again c.loop-i.invariant (omega arith) c.if-seen-k.true

pub loop-i-preserved : goal.loop-i-preserved
loop-i-preserved c =
    let byte = c.shared_slice_known-1.given (c.loop-i.i - 1) in
    mark_more c.loop-i.invariant (omega arith) c.if-n-k.false (omega arith) c.if-seen-k.false

pub returns : goal.returns
returns c = mark_end c.loop-i.invariant (omega arith)
