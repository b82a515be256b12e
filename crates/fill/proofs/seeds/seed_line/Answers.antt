-- `seed_line` scans a line as the rule does, a single column at once and any other by stretches: what is left of the scan, from where it stands, gives what the whole gives. Assumes nothing.
use Prim.Native.Nat.{ℕ, ◌≤◌, ◌<◌, ◌+◌, ◌-◌}
use native.Mathlib.Omega.{arith}
use mathlib.Core.Path.{◌≡◌, refl, ap, ◌∙◌, subst}
use lib.ListN.{length}
use Rattle.pieces.specs.Picture.{pixel}
use Rattle.fill.specs.Stack.{held}
use Rattle.fill.specs.Stretch.{past_others}
use Rattle.fill.proofs.Scan.{seeds_end}
use Rattle.fill.proofs.Stretches.{Onset, onset, run_within, seeds_others, seeds_more, seeds_turn}
use Rattle.fill.proofs.Entries.{held_length, held_push}
use Rattle.fill.proofs.seeds.seed_line.Goals as goal

pub returns-then-n-eq1 : goal.returns-then-n-eq1
returns-then-n-eq1 c = rw c.if-n-eq1.true c.seed_pixel.ensures

pub loop-x-init : goal.loop-x-init
loop-x-init c =
    let d : c.args.left + c.args.n - c.args.left ≡ c.args.n = omega arith in
    let e = subst (λ (m : ℕ). c.past_others-x.result ≡ past_others c.args.pic.now c.args.base c.args.from c.args.left m) d c.past_others-x.ensures in
    (seeds_others _ _ _ _ _ c.requires.base_value.0 _ _ _ _ _ _ refl e, onset _ _ _ _ _ _ _ refl e)

pub offset_bounds-stack-top : goal.offset_bounds-stack-top
offset_bounds-stack-top c =
    let room : c.loop-x.top < length c.loop-x.stack =
    let more = seeds_more c.args.pic.now c.args.base c.args.from c.args.w c.args.y c.requires.base_value.0 (λ e. pixel e c.args.y) c.loop-x.x (c.args.left + c.args.n) (held c.loop-x.stack c.loop-x.top) c.loop-x-test.true (c.loop-x.invariant.1.shown c.loop-x-test.true) in
    omega (arith, more, ap length c.loop-x.invariant.0, c.requires.sp_in_bounds, held_length c.loop-x.stack c.loop-x.top, c.loop-x.auto.stack)
    in
    omega (arith, room, c.well_formed, c.loop-x.auto.stack)

pub bounds-stack-top : goal.bounds-stack-top
bounds-stack-top c =
    let room : c.loop-x.top < length c.loop-x.stack =
    let more = seeds_more c.args.pic.now c.args.base c.args.from c.args.w c.args.y c.requires.base_value.0 (λ e. pixel e c.args.y) c.loop-x.x (c.args.left + c.args.n) (held c.loop-x.stack c.loop-x.top) c.loop-x-test.true (c.loop-x.invariant.1.shown c.loop-x-test.true) in
    omega (arith, more, ap length c.loop-x.invariant.0, c.requires.sp_in_bounds, held_length c.loop-x.stack c.loop-x.top, c.loop-x.auto.stack)
    in
    room

pub overflow_add-top : goal.overflow_add-top
overflow_add-top c =
    let room : c.loop-x.top < length c.loop-x.stack =
    let more = seeds_more c.args.pic.now c.args.base c.args.from c.args.w c.args.y c.requires.base_value.0 (λ e. pixel e c.args.y) c.loop-x.x (c.args.left + c.args.n) (held c.loop-x.stack c.loop-x.top) c.loop-x-test.true (c.loop-x.invariant.1.shown c.loop-x-test.true) in
    omega (arith, more, ap length c.loop-x.invariant.0, c.requires.sp_in_bounds, held_length c.loop-x.stack c.loop-x.top, c.loop-x.auto.stack)
    in
    omega (arith, room, c.well_formed, c.loop-x.auto.stack)

pub past_others-x-requires-in-loop-x : goal.past_others-x-requires-in-loop-x
past_others-x-requires-in-loop-x c =
    let ends : (c.loop-x.x + 1 ≤ c.past_run-past.result) × (c.past_run-past.result ≤ c.args.left + c.args.n) = run_within _ _ _ _ _ _ _ (omega arith) c.past_run-past.ensures in
    (omega (arith, ends), omega arith)

pub loop-x-smaller : goal.loop-x-smaller
loop-x-smaller c =
    let ends : (c.loop-x.x + 1 ≤ c.past_run-past.result) × (c.past_run-past.result ≤ c.args.left + c.args.n) = run_within _ _ _ _ _ _ _ (omega arith) c.past_run-past.ensures in
    let next : Onset c.args.pic.now c.args.base c.args.from c.past_run-past.result (c.args.left + c.args.n) c.past_others-x-in-loop-x.result = onset _ _ _ _ _ _ _ (omega (arith, ends)) c.past_others-x-in-loop-x.ensures in
    omega (arith, ends, (next).low)

pub loop-x-preserved : goal.loop-x-preserved
loop-x-preserved c =
    let room : c.loop-x.top < length c.loop-x.stack =
    let more = seeds_more c.args.pic.now c.args.base c.args.from c.args.w c.args.y c.requires.base_value.0 (λ e. pixel e c.args.y) c.loop-x.x (c.args.left + c.args.n) (held c.loop-x.stack c.loop-x.top) c.loop-x-test.true (c.loop-x.invariant.1.shown c.loop-x-test.true) in
    omega (arith, more, ap length c.loop-x.invariant.0, c.requires.sp_in_bounds, held_length c.loop-x.stack c.loop-x.top, c.loop-x.auto.stack)
    in
    let ends : (c.loop-x.x + 1 ≤ c.past_run-past.result) × (c.past_run-past.result ≤ c.args.left + c.args.n) = run_within _ _ _ _ _ _ _ (omega arith) c.past_run-past.ensures in
    let next : Onset c.args.pic.now c.args.base c.args.from c.past_run-past.result (c.args.left + c.args.n) c.past_others-x-in-loop-x.result = onset _ _ _ _ _ _ _ (omega (arith, ends)) c.past_others-x-in-loop-x.ensures in
    let push = held_push c.loop-x.stack c.loop-x.top c.loop-x.x c.args.y (c.loop-x.top + 1) (room) (omega arith) (omega arith) in
    let turn = seeds_turn _ _ _ _ _ c.requires.base_value.0 _ _ _ _ _ _ _ c.loop-x-test.true (c.loop-x.invariant.1.shown c.loop-x-test.true) push c.past_run-past.ensures c.past_others-x-in-loop-x.ensures in
    let o = next in
    (c.loop-x.invariant.0 ∙ turn, record { low = omega (arith, ends, o.low); high = o.high; shown = o.shown })

pub returns : goal.returns
returns c =
    let z : c.args.left + c.args.n - c.loop-x.x ≡ 0 = omega arith in
    rw (c.loop-x.invariant.0, z, seeds_end)
