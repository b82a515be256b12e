-- `next` multiplies with the reciprocal and drops 32 bits: 16 bits times 32 fit. Assumes nothing.
use Prim.Native.Nat.{◌*◌, ◌≤◌}
use native.Mathlib.Omega.{arith}
use native.Mathlib.Nat.{mul-le-mul}
use Rattle.prepare.proofs.averages.next.Goals as goal

pub overflow_mul-result : goal.overflow_mul-result
overflow_mul-result c =
    let product : c.args.average * c.args.k ≤ 65535 * 4294967295 = mul-le-mul {n₂ = 65535} {m₂ = 4294967295} (omega arith) (omega arith) in
    omega (arith, product)

pub overflow_add-result : goal.overflow_add-result
overflow_add-result c =
    let product : c.args.average * c.args.k ≤ 65535 * 4294967295 = mul-le-mul {n₂ = 65535} {m₂ = 4294967295} (omega arith) (omega arith) in
    omega (arith, product)
