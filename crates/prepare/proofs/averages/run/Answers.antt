-- `run` carries both averages along a row by the reciprocal of s, and keeps them column by column. Assumes nothing.
use Prim.Native.Nat.{ℕ, ◌+◌, ◌-◌, ◌*◌, ◌≤◌}
use mathlib.Core.Path.{◌≡◌}
use native.Mathlib.Omega.{arith}
use lib.ListN.{get_or, length}
use Rattle.prepare.specs.Threshold.{step}
use Rattle.prepare.proofs.Reciprocal.{step_by_reciprocal}
use Rattle.prepare.proofs.Runs.{midway_goes_on, midway_ends}
use Rattle.prepare.proofs.averages.run.Goals as goal

pub overflow_cast-lefts : goal.overflow_cast-lefts
overflow_cast-lefts c =
    let bytes : (i : ℕ) → get_or c.args.row.now i 0 ≤ 255 = λ i. omega (arith, c.type_inv.row i) in
    let a_next : (c.next-a.result ≡ step c.args.s c.loop-x.a (get_or c.args.row.now c.loop-x.x 0)) × (c.next-a.result ≤ 255 * c.args.s) = step_by_reciprocal c.args.s c.loop-x.a _ _ _ c.requires.some c.requires.few c.loop-x.invariant.a_low (bytes c.loop-x.x) c.reciprocal-k.ensures c.next-a.ensures in
    omega (arith, (a_next).1, c.requires.few)

pub overflow_cast-rights : goal.overflow_cast-rights
overflow_cast-rights c =
    let bytes : (i : ℕ) → get_or c.args.row.now i 0 ≤ 255 = λ i. omega (arith, c.type_inv.row i) in
    let b_next : (c.next-b.result ≡ step c.args.s c.loop-x.b (get_or c.args.row.now (length c.args.row.now - 1 - c.loop-x.x) 0)) × (c.next-b.result ≤ 255 * c.args.s) = step_by_reciprocal c.args.s c.loop-x.b _ _ _ c.requires.some c.requires.few c.loop-x.invariant.b_low (bytes (length c.args.row.now - 1 - c.loop-x.x)) c.reciprocal-k.ensures c.next-b.ensures in
    omega (arith, (b_next).1, c.requires.few)

pub loop-x-preserved : goal.loop-x-preserved
loop-x-preserved c =
    let bytes : (i : ℕ) → get_or c.args.row.now i 0 ≤ 255 = λ i. omega (arith, c.type_inv.row i) in
    let a_next : (c.next-a.result ≡ step c.args.s c.loop-x.a (get_or c.args.row.now c.loop-x.x 0)) × (c.next-a.result ≤ 255 * c.args.s) = step_by_reciprocal c.args.s c.loop-x.a _ _ _ c.requires.some c.requires.few c.loop-x.invariant.a_low (bytes c.loop-x.x) c.reciprocal-k.ensures c.next-a.ensures in
    let b_next : (c.next-b.result ≡ step c.args.s c.loop-x.b (get_or c.args.row.now (length c.args.row.now - 1 - c.loop-x.x) 0)) × (c.next-b.result ≤ 255 * c.args.s) = step_by_reciprocal c.args.s c.loop-x.b _ _ _ c.requires.some c.requires.few c.loop-x.invariant.b_low (bytes (length c.args.row.now - 1 - c.loop-x.x)) c.reciprocal-k.ensures c.next-b.ensures in
    midway_goes_on c.args.s c.args.left c.args.right c.args.row.now c.loop-x.lefts c.loop-x.rights c.loop-x.a c.loop-x.b c.loop-x.x (length c.args.row.now - c.loop-x.x) (length c.args.row.now - 1 - c.loop-x.x) (length c.args.row.now - (c.loop-x.x + 1)) c.next-a.result c.next-b.result c.requires.some bytes (omega arith) (omega arith) (omega arith) (a_next).0 (b_next).0 c.loop-x.invariant

pub returns : goal.returns
returns c =
    let m = midway_ends c.args.s c.args.left c.args.right c.args.row.now c.loop-x.lefts c.loop-x.rights c.loop-x.a c.loop-x.b c.loop-x.x (length c.args.row.now - c.loop-x.x) (omega arith) c.loop-x.invariant in
    (rw (m.0, m.1), m.2)
