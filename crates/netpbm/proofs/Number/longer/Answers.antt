-- `longer` fits: a number that can take a digit is below 10,000. Assumes nothing.
use native.Mathlib.Omega.{arith}
use Rattle.netpbm.proofs.Numbers.{digit_range, takes_told, few_decades}
use Rattle.netpbm.proofs.Number.longer.Goals as goal

pub overflow_mul-result : goal.overflow_mul-result
overflow_mul-result c =
    let t = takes_told _ _ c.requires.1 in
    let d = few_decades _ t.0 in
    omega (arith, d)

pub overflow_sub-result : goal.overflow_sub-result
overflow_sub-result c = (digit_range _ (takes_told _ _ c.requires.1).1).0

pub overflow_add-result-2 : goal.overflow_add-result-2
overflow_add-result-2 c =
    let t = takes_told _ _ c.requires.1 in
    let d = few_decades _ t.0 in
    omega (arith, d)
