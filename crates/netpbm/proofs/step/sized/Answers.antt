-- `sized` multiplies two numbers below 100,000. Assumes nothing.
use native.Mathlib.Omega.{arith}
use borrow.Author.Tests.{le-leb, lt-leb}
use Rattle.netpbm.specs.Machine.{sized}
use Rattle.netpbm.proofs.Numbers.{mul_lt_most}
use Rattle.netpbm.proofs.step.sized.Goals as goal

pub overflow_mul-width : goal.overflow_mul-width
overflow_mul-width c = let m = mul_lt_most _ _ c.requires.0 c.requires.1 in omega (arith, m)

pub returns-then-width-height-gt16384 : goal.returns-then-width-height-gt16384
unfolding sized
returns-then-width-height-gt16384 c = rw (lt-leb _ _ c.if-width-height-gt16384.true)

pub returns : goal.returns
unfolding sized
returns c = rw (le-leb _ _ c.if-width-height-gt16384.false)
