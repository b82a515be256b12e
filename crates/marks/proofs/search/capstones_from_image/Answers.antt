-- `capstones_from_image` goes from cut to cut, until the picture ends or a cut is refused. Assumes nothing.
use native.Mathlib.Omega.{arith}
use Prim.Native.Nat.{◌≤◌}
use mathlib.Core.Path.{◌≡◌, refl, ap}
use lib.ListN.{length}
use Rattle.laid.specs.Laid.{told}
use Rattle.marks.specs.Stone.{meaning}
use Rattle.marks.proofs.Cut.{ring_lookable, stone_lookable, markable, tries_of}
use Rattle.marks.proofs.Searching.{reached, found_stones, tries_fit, takes_stone, takes_nothing, takes_refusal, over_begun, over_ends, over_less, over_asks, over_stops, over_next}
use Rattle.marks.proofs.Whole.{all_stand}
use Rattle.marks.proofs.search.capstones_from_image.Goals as goal

pub loop-line-init : goal.loop-line-init
unfolding told
loop-line-init c =
    (over_begun (all_stand _ _ _) (rw c.none-marks.ensures.2 c.requires) c.none-marks.ensures.0 c.none-marks.ensures.1 c.new-scan.ensures, refl, refl)

pub next_cut-requires : goal.next_cut-requires
next_cut-requires c =
    (c.loop-line.invariant.0.goes.work.roomy.sized, c.loop-line.invariant.0.low, c.loop-line.invariant.0.on)

pub returns : goal.returns
returns c =
    (rw c.none-marks.ensures.2 at (over_ends c.loop-line.invariant.0 (reached c.in_default.is c.next_cut.ensures)), c.loop-line.invariant.0.laid)

pub get_region-ring-requires : goal.get_region-ring-requires
get_region-ring-requires c =
    ring_lookable (over_asks c.loop-line.invariant.0 (reached c.in-Some.is c.next_cut.ensures))

pub get_region-stone-requires : goal.get_region-stone-requires
get_region-stone-requires c =
    let room_after : length c.loop-line.stack ≤ length c.get_region-ring.new.stack = omega (arith, c.get_region-ring.auto.stack) in
    stone_lookable (over_asks c.loop-line.invariant.0 (reached c.in-Some.is c.next_cut.ensures)) (room_after) c.get_region-ring.ensures

pub mark_at-requires : goal.mark_at-requires
mark_at-requires c =
    let room_after : length c.loop-line.stack ≤ length c.get_region-ring.new.stack = omega (arith, c.get_region-ring.auto.stack) in
    let room_then : length c.get_region-ring.new.stack ≤ length c.get_region-stone.new.stack = omega (arith, c.get_region-stone.auto.stack) in
    markable c.get_region-ring.ensures c.get_region-stone.ensures (over_asks c.loop-line.invariant.0 (reached c.in-Some.is c.next_cut.ensures)) (room_after) (room_then)

pub with_stone-marks-requires : goal.with_stone-marks-requires
with_stone-marks-requires c =
    (c.loop-line.invariant.0.laid, c.loop-line.invariant.0.going, tries_fit (tries_of c.get_region-ring.ensures c.get_region-stone.ensures c.mark_at.ensures) (ap meaning (rw c.in-Ok-Some.field-0-is at c.in-Ok-Some.is)))

pub shape_of-pic-in-Err : goal.shape_of-pic-in-Err
shape_of-pic-in-Err c =
    let pic_kept : length c.mark_at.new.pic ≡ length c.loop-line.pic = omega (arith, c.mark_at.auto.pic, c.get_region-stone.auto.pic, c.get_region-ring.auto.pic) in
    omega (arith, c.loop-line.invariant.1, pic_kept)

pub shape_of-stack-in-Err : goal.shape_of-stack-in-Err
shape_of-stack-in-Err c =
    let stack_kept : length c.mark_at.new.stack ≡ length c.loop-line.stack = omega (arith, c.mark_at.auto.stack, c.get_region-stone.auto.stack, c.get_region-ring.auto.stack) in
    omega (arith, c.loop-line.invariant.2, stack_kept)

pub returns-in-Err : goal.returns-in-Err
unfolding told
returns-in-Err c =
    let K = takes_refusal (tries_of c.get_region-ring.ensures c.get_region-stone.ensures c.mark_at.ensures) (ap meaning c.in-Err.is) c.none.ensures in
    (rw c.none-marks.ensures.2 at (over_stops c.loop-line.invariant.0 (reached c.in-Some.is c.next_cut.ensures) K _ c.none.ensures.0), K.laid)

pub loop-line-smaller-in-Ok-Some : goal.loop-line-smaller-in-Ok-Some
loop-line-smaller-in-Ok-Some c =
    over_less c.loop-line.invariant.0 (reached c.in-Some.is c.next_cut.ensures)

pub loop-line-preserved-in-Ok-Some : goal.loop-line-preserved-in-Ok-Some
loop-line-preserved-in-Ok-Some c =
    let stack_kept : length c.mark_at.new.stack ≡ length c.loop-line.stack = omega (arith, c.mark_at.auto.stack, c.get_region-stone.auto.stack, c.get_region-ring.auto.stack) in
    let pic_kept : length c.mark_at.new.pic ≡ length c.loop-line.pic = omega (arith, c.mark_at.auto.pic, c.get_region-stone.auto.pic, c.get_region-ring.auto.pic) in
    let stone = rw c.in-Ok-Some.field-0-is at c.in-Ok-Some.is in
    let K = takes_stone (tries_of c.get_region-ring.ensures c.get_region-stone.ensures c.mark_at.ensures) (ap meaning stone) (rw c.in-Ok-Some.field-0-is at c.with_stone-marks.ensures) in
    (over_next c.loop-line.invariant.0 (reached c.in-Some.is c.next_cut.ensures) K (omega (arith, stack_kept)) (found_stones c.with_stone-marks.result _ c.with_stone-marks.ensures.0).0, omega (arith, c.loop-line.invariant.1, pic_kept), omega (arith, c.loop-line.invariant.2, stack_kept))

pub loop-line-smaller : goal.loop-line-smaller
loop-line-smaller c =
    over_less c.loop-line.invariant.0 (reached c.in-Some.is c.next_cut.ensures)

pub loop-line-preserved : goal.loop-line-preserved
loop-line-preserved c =
    let stack_kept : length c.mark_at.new.stack ≡ length c.loop-line.stack = omega (arith, c.mark_at.auto.stack, c.get_region-stone.auto.stack, c.get_region-ring.auto.stack) in
    let pic_kept : length c.mark_at.new.pic ≡ length c.loop-line.pic = omega (arith, c.mark_at.auto.pic, c.get_region-stone.auto.pic, c.get_region-ring.auto.pic) in
    let K = takes_nothing (tries_of c.get_region-ring.ensures c.get_region-stone.ensures c.mark_at.ensures) (ap meaning (rw c.in-Ok-None.field-0-is at c.in-Ok-None.is)) c.loop-line.invariant.0.laid c.loop-line.invariant.0.going in
    (over_next c.loop-line.invariant.0 (reached c.in-Some.is c.next_cut.ensures) K (omega (arith, stack_kept)) c.loop-line.invariant.0.going, omega (arith, c.loop-line.invariant.1, pic_kept), omega (arith, c.loop-line.invariant.2, stack_kept))
