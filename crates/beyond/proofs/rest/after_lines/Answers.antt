-- `after_lines`: of at most seven positions, each but the first makes a column and a line of alignment patterns. Assumes nothing.
use Prim.Native.Nat.{ℕ, ◌-◌, ◌*◌, ◌≤◌}
use native.Mathlib.Nat.{zero-mul, zero-add, mul-le-mul}
use native.Mathlib.Omega.{arith}
use mathlib.Core.Path.{◌≡◌}
use borrow.Author.Rules.{rules}
use Rattle.beyond.specs.Most.{after_lines}
use Rattle.beyond.proofs.rest.after_lines.Goals as goal

-- at most 36 patterns
few : (k : ℕ) → k ≤ 6 → k * (k * 225) ≤ 8100
few k h = let row : k * 225 ≤ 1350 = omega arith in mul-le-mul h row

pub returns-then-n-lt2 : goal.returns-then-n-lt2
unfolding after_lines
returns-then-n-lt2 c =
    let e : c.args.n - 1 ≡ 0 = omega arith in
    (rw (e, zero-mul, zero-add) c.after_columns-last.ensures.0, omega arith)

pub overflow_mul-result-2 : goal.overflow_mul-result-2
overflow_mul-result-2 c = let most = few (c.args.n - 1) (omega arith) in search rules

pub overflow_add-result : goal.overflow_add-result
overflow_add-result c = let most = few (c.args.n - 1) (omega arith) in search rules

pub returns : goal.returns
unfolding after_lines
returns c =
    let most = few (c.args.n - 1) (omega arith) in
    (rw c.after_columns-last.ensures.0, omega arith)
