-- `search_from` visits and glides, until a place is the answer, a visit is refused, or the leg is too long. Assumes nothing.
use Prim.Native.Nat.{◌≤◌}
use native.Mathlib.Nat.{mul-le-mul, lt_of_le_of_lt}
use native.Mathlib.Omega.{arith}
use mathlib.Core.Path.{◌≡◌, refl}
use lib.ListN.{length}
use borrow.Author.Rules.{rules}
use Rattle.points.specs.declared.Point.{Point}
use Rattle.table.proofs.Exact.{sound_exact}
use Rattle.alignment.specs.declared.spiral.Pass.{Pass}
use Rattle.alignment.proofs.Visiting.{proper_test, visit_keeps}
use Rattle.alignment.proofs.Spiralling.{Along, along_begun, along_far, along_less, along_here, along_stops, along_stays, along_moves, along_fewer, along_glides}
use Rattle.alignment.proofs.search.search_from.Goals as goal

pub loop-pass-init : goal.loop-pass-init
loop-pass-init c =
    let entries : length c.args.table.entries ≡ 251 = c.well_formed.1.1.1.1.0.1.1.0.1.0.1 in
    let age : length c.args.table.age ≡ 251 = search rules in
    let sound = (sound_exact c.args.table _ _ (omega arith)).0 c.requires.1 in
    (along_begun c.requires.4 c.requires.0 (record { entries = entries; age = age; sound = sound }) c.requires.2 c.requires.3, refl, refl)

pub overflow_mul-pass : goal.overflow_mul-pass
overflow_mul-pass c = omega (arith, mul-le-mul c.loop-pass.invariant.0.turning.step_low c.loop-pass.invariant.0.turning.step_low)

pub visit_place-visited-requires : goal.visit_place-visited-requires
visit_place-visited-requires c = (c.loop-pass.invariant.0.roomy, proper_test c.loop-pass.invariant.0.kept.proper, c.loop-pass.invariant.0.few)

pub passed_by-passed-requires : goal.passed_by-passed-requires
passed_by-passed-requires c =
    ((visit_keeps c.loop-pass.invariant.0.roomy c.loop-pass.invariant.0.kept.proper c.visit_place-visited.ensures).proper.sound.ordered, c.loop-pass.invariant.0.few)

pub moved-to-requires : goal.moved-to-requires
moved-to-requires c = (omega (arith, c.loop-pass.invariant.0.near.x_low), omega (arith, c.loop-pass.invariant.0.near.y_low))

pub next-requires : goal.next-requires
next-requires c = c.loop-pass.invariant.0.turning

pub glide-on-requires : goal.glide-on-requires
glide-on-requires c =
    let Ahead : Pass → Point → Type 0 = λ s at.
    Along c.args.pic.now c.args.width c.args.height c.args.estimate c.args.first c.args.from c.args.table
    c.visit_place-visited.new.pic (length c.visit_place-visited.new.stack) s at c.visit_place-visited.result.table
    in
    let room_after : length c.loop-pass.stack ≤ length c.visit_place-visited.new.stack = omega (arith, c.visit_place-visited.auto.stack) in
    let which = rw c.in-Ok-Moves.is at c.in-Ok-Moves.field-0-is in
    let on_moves : Ahead c.next.result c.moved-to.result =
    rw (c.next.ensures, c.moved-to.ensures)
    (along_moves c.loop-pass.invariant.0 c.loop-pass-test.true c.visit_place-visited.ensures (room_after) (rw which at c.in-Ok-Moves.is))
    in
    let A = on_moves in (A.roomy.sized, A.turning, A.near, A.few)

pub loop-pass-smaller-in-Ok-Moves : goal.loop-pass-smaller-in-Ok-Moves
loop-pass-smaller-in-Ok-Moves c =
    let Ahead : Pass → Point → Type 0 = λ s at.
    Along c.args.pic.now c.args.width c.args.height c.args.estimate c.args.first c.args.from c.args.table
    c.visit_place-visited.new.pic (length c.visit_place-visited.new.stack) s at c.visit_place-visited.result.table
    in
    let room_after : length c.loop-pass.stack ≤ length c.visit_place-visited.new.stack = omega (arith, c.visit_place-visited.auto.stack) in
    let which = rw c.in-Ok-Moves.is at c.in-Ok-Moves.field-0-is in
    let on_moves : Ahead c.next.result c.moved-to.result =
    rw (c.next.ensures, c.moved-to.ensures)
    (along_moves c.loop-pass.invariant.0 c.loop-pass-test.true c.visit_place-visited.ensures (room_after) (rw which at c.in-Ok-Moves.is))
    in
    lt_of_le_of_lt (along_fewer (on_moves) c.passed_by-passed.ensures c.glide-on.ensures) (rw c.next.ensures (along_less c.loop-pass.invariant.0 c.loop-pass-test.true))

pub loop-pass-preserved-in-Ok-Moves : goal.loop-pass-preserved-in-Ok-Moves
loop-pass-preserved-in-Ok-Moves c =
    let Ahead : Pass → Point → Type 0 = λ s at.
    Along c.args.pic.now c.args.width c.args.height c.args.estimate c.args.first c.args.from c.args.table
    c.visit_place-visited.new.pic (length c.visit_place-visited.new.stack) s at c.visit_place-visited.result.table
    in
    let room_after : length c.loop-pass.stack ≤ length c.visit_place-visited.new.stack = omega (arith, c.visit_place-visited.auto.stack) in
    let which = rw c.in-Ok-Moves.is at c.in-Ok-Moves.field-0-is in
    let on_moves : Ahead c.next.result c.moved-to.result =
    rw (c.next.ensures, c.moved-to.ensures)
    (along_moves c.loop-pass.invariant.0 c.loop-pass-test.true c.visit_place-visited.ensures (room_after) (rw which at c.in-Ok-Moves.is))
    in
    let same_picture : length c.visit_place-visited.new.pic ≡ length c.args.pic.now = omega (arith, c.loop-pass.invariant.1, c.visit_place-visited.auto.pic) in
    let same_stack : length c.visit_place-visited.new.stack ≡ length c.args.stack.now = omega (arith, c.loop-pass.invariant.2, c.visit_place-visited.auto.stack) in
    (along_glides (on_moves) c.passed_by-passed.ensures c.glide-on.ensures, same_picture, same_stack)

pub next-requires-in-Ok-Stays : goal.next-requires-in-Ok-Stays
next-requires-in-Ok-Stays c = c.loop-pass.invariant.0.turning

pub glide-on-requires-in-Ok-Stays : goal.glide-on-requires-in-Ok-Stays
glide-on-requires-in-Ok-Stays c =
    let Ahead : Pass → Point → Type 0 = λ s at.
    Along c.args.pic.now c.args.width c.args.height c.args.estimate c.args.first c.args.from c.args.table
    c.visit_place-visited.new.pic (length c.visit_place-visited.new.stack) s at c.visit_place-visited.result.table
    in
    let room_after : length c.loop-pass.stack ≤ length c.visit_place-visited.new.stack = omega (arith, c.visit_place-visited.auto.stack) in
    let which = rw c.in-Ok-Stays.is at c.in-Ok-Stays.field-0-is in
    let on_stays : Ahead c.next-in-Ok-Stays.result c.loop-pass.at = rw c.next-in-Ok-Stays.ensures (along_stays c.loop-pass.invariant.0 c.loop-pass-test.true c.visit_place-visited.ensures (room_after) (rw which at c.in-Ok-Stays.is)) in
    let A = on_stays in (A.roomy.sized, A.turning, A.near, A.few)

pub loop-pass-smaller : goal.loop-pass-smaller
loop-pass-smaller c =
    let Ahead : Pass → Point → Type 0 = λ s at.
    Along c.args.pic.now c.args.width c.args.height c.args.estimate c.args.first c.args.from c.args.table
    c.visit_place-visited.new.pic (length c.visit_place-visited.new.stack) s at c.visit_place-visited.result.table
    in
    let room_after : length c.loop-pass.stack ≤ length c.visit_place-visited.new.stack = omega (arith, c.visit_place-visited.auto.stack) in
    let which = rw c.in-Ok-Stays.is at c.in-Ok-Stays.field-0-is in
    let on_stays : Ahead c.next-in-Ok-Stays.result c.loop-pass.at = rw c.next-in-Ok-Stays.ensures (along_stays c.loop-pass.invariant.0 c.loop-pass-test.true c.visit_place-visited.ensures (room_after) (rw which at c.in-Ok-Stays.is)) in
    lt_of_le_of_lt (along_fewer (on_stays) c.passed_by-passed.ensures c.glide-on-in-Ok-Stays.ensures) (rw c.next-in-Ok-Stays.ensures (along_less c.loop-pass.invariant.0 c.loop-pass-test.true))

pub loop-pass-preserved : goal.loop-pass-preserved
loop-pass-preserved c =
    let Ahead : Pass → Point → Type 0 = λ s at.
    Along c.args.pic.now c.args.width c.args.height c.args.estimate c.args.first c.args.from c.args.table
    c.visit_place-visited.new.pic (length c.visit_place-visited.new.stack) s at c.visit_place-visited.result.table
    in
    let room_after : length c.loop-pass.stack ≤ length c.visit_place-visited.new.stack = omega (arith, c.visit_place-visited.auto.stack) in
    let which = rw c.in-Ok-Stays.is at c.in-Ok-Stays.field-0-is in
    let on_stays : Ahead c.next-in-Ok-Stays.result c.loop-pass.at = rw c.next-in-Ok-Stays.ensures (along_stays c.loop-pass.invariant.0 c.loop-pass-test.true c.visit_place-visited.ensures (room_after) (rw which at c.in-Ok-Stays.is)) in
    let same_picture : length c.visit_place-visited.new.pic ≡ length c.args.pic.now = omega (arith, c.loop-pass.invariant.1, c.visit_place-visited.auto.pic) in
    let same_stack : length c.visit_place-visited.new.stack ≡ length c.args.stack.now = omega (arith, c.loop-pass.invariant.2, c.visit_place-visited.auto.stack) in
    (along_glides (on_stays) c.passed_by-passed.ensures c.glide-on-in-Ok-Stays.ensures, same_picture, same_stack)

pub returns-in-Ok-Here : goal.returns-in-Ok-Here
returns-in-Ok-Here c =
    let which = rw c.in-Ok-Here.is at c.in-Ok-Here.field-0-is in
    along_here c.loop-pass.invariant.0 c.loop-pass-test.true c.visit_place-visited.ensures (rw which at c.in-Ok-Here.is)

pub returns-in-Err : goal.returns-in-Err
returns-in-Err c =
    along_stops c.loop-pass.invariant.0 c.loop-pass-test.true c.visit_place-visited.ensures _ c.in-Err.is

pub returns : goal.returns
returns c = along_far c.loop-pass.invariant.0 c.loop-pass-test.false
