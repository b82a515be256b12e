-- `sum` takes byte after byte: the bytes that are left lead where the whole picture leads. Assumes nothing.
use native.Mathlib.Nat.{mod-lt}
use native.Mathlib.Omega.{arith}
use borrow.Author.Rules.{rules}
use mathlib.Core.Path.{refl, sym, ◌∙◌}
use Rattle.vectors.proofs.Summing.{sum_on, sum_end, product_fits}
use Rattle.vectors.proofs.sums.sum.Goals as goal

pub loop-byte-init : goal.loop-byte-init
loop-byte-init c = (omega arith, refl)

pub overflow_mul-total : goal.overflow_mul-total
overflow_mul-total c =
    let fits = product_fits c.loop-byte.invariant.0 c.requires in
    omega arith

pub overflow_add-total : goal.overflow_add-total
overflow_add-total c =
    let fits = product_fits c.loop-byte.invariant.0 c.requires in
    omega arith

pub overflow_add-total-in-loop-byte : goal.overflow_add-total-in-loop-byte
overflow_add-total-in-loop-byte c =
    let fits = product_fits c.loop-byte.invariant.0 c.requires in
    omega arith

pub loop-byte-preserved : goal.loop-byte-preserved
loop-byte-preserved c =
    (mod-lt _ (omega arith), sum_on _ c.loop-byte.total _ c.loop-byte.byte-index (search rules) ∙ c.loop-byte.invariant.1)

pub returns : goal.returns
returns c =
    sym (sum_end _ c.loop-byte.total _ c.loop-byte.byte-index (search rules)) ∙ c.loop-byte.invariant.1
