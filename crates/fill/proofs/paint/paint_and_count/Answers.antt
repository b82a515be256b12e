-- `paint_and_count` paints its piece and counts as it goes: each need is a law of Counting. Assumes nothing.
use Prim.Native.Nat.{◌<◌, ◌≤◌}
use native.Mathlib.Omega.{arith}
use mathlib.Core.Path.{refl}
use borrow.Author.Rules.{rules}
use Rattle.fill.proofs.Filling.{room_some, filling_asks, filling_less, end_paints}
use Rattle.fill.proofs.Folding.{steps_as}
use Rattle.fill.proofs.Counting.{counting_begun, pushes_low, met_kept, met_in, counting_met, counting_passed, counting_end}
use Rattle.fill.proofs.paint.paint_and_count.Goals as goal

pub seed-from-requires : goal.seed-from-requires
seed-from-requires c = (c.requires.sized, c.requires.in_x, c.requires.in_y, room_some c.requires)

pub loop-sp-init : goal.loop-sp-init
loop-sp-init c =
    counting_begun c.requires c.seed-from.ensures.0 (search rules) c.seed-from.ensures.1

pub fill_step-requires : goal.fill_step-requires
fill_step-requires c = filling_asks c.loop-sp.invariant.filling (omega arith)

pub overflow_add-rows : goal.overflow_add-rows
overflow_add-rows c = omega (arith, c.loop-sp.invariant.rows_few, pushes_low c.loop-sp.invariant)

pub overflow_sub-pixels : goal.overflow_sub-pixels
overflow_sub-pixels c =
    let some : 0 < c.loop-sp.sp = omega arith in
    let within : (c.in-Met.r.left ≤ c.in-Met.r.right) × (c.in-Met.r.right < c.args.w) = met_in c.loop-sp.invariant (some) c.fill_step.ensures c.in-Met.is (search rules) (search rules) in
    (within).0

pub overflow_add-pixels : goal.overflow_add-pixels
overflow_add-pixels c =
    let some : 0 < c.loop-sp.sp = omega arith in
    let within : (c.in-Met.r.left ≤ c.in-Met.r.right) × (c.in-Met.r.right < c.args.w) = met_in c.loop-sp.invariant (some) c.fill_step.ensures c.in-Met.is (search rules) (search rules) in
    let m = within in
    omega (arith, m.0, m.1, c.loop-sp.invariant.filling.wide)

pub overflow_add-pixels-in-Met : goal.overflow_add-pixels-in-Met
overflow_add-pixels-in-Met c =
    let some : 0 < c.loop-sp.sp = omega arith in
    let within : (c.in-Met.r.left ≤ c.in-Met.r.right) × (c.in-Met.r.right < c.args.w) = met_in c.loop-sp.invariant (some) c.fill_step.ensures c.in-Met.is (search rules) (search rules) in
    let m = within in
    omega (arith, m.0, m.1, c.loop-sp.invariant.filling.wide, c.loop-sp.invariant.pixels_few, pushes_low c.loop-sp.invariant)

pub overflow_sub-pushes : goal.overflow_sub-pushes
overflow_sub-pushes c =
    let some : 0 < c.loop-sp.sp = omega arith in
    omega (arith, met_kept c.loop-sp.invariant (some) c.fill_step.ensures c.in-Met.is)

pub overflow_add-pushes : goal.overflow_add-pushes
overflow_add-pushes c =
    let some : 0 < c.loop-sp.sp = omega arith in
    omega (arith, pushes_low (counting_met c.loop-sp.invariant (some) c.fill_step.ensures c.in-Met.is (search rules) (search rules)))

pub loop-sp-smaller-in-Met : goal.loop-sp-smaller-in-Met
loop-sp-smaller-in-Met c =
    let some : 0 < c.loop-sp.sp = omega arith in
    filling_less c.loop-sp.invariant.filling (some) (steps_as c.in-Met.is c.fill_step.ensures)

pub loop-sp-preserved-in-Met : goal.loop-sp-preserved-in-Met
loop-sp-preserved-in-Met c =
    let some : 0 < c.loop-sp.sp = omega arith in
    counting_met c.loop-sp.invariant (some) c.fill_step.ensures c.in-Met.is (search rules) (search rules)

pub loop-sp-smaller : goal.loop-sp-smaller
loop-sp-smaller c =
    let some : 0 < c.loop-sp.sp = omega arith in
    filling_less c.loop-sp.invariant.filling (some) (steps_as c.in-Passed.is c.fill_step.ensures)

pub loop-sp-preserved : goal.loop-sp-preserved
loop-sp-preserved c =
    let some : 0 < c.loop-sp.sp = omega arith in
    counting_passed c.loop-sp.invariant (some) c.fill_step.ensures c.in-Passed.is (search rules) (search rules)

pub returns : goal.returns
returns c = (end_paints c.loop-sp.invariant.filling (omega arith), counting_end c.loop-sp.invariant (omega arith) _ refl refl refl)
