-- `seed_pixel` does what a scan of one column does. Assumes nothing.
use Prim.Native.Nat.{◌<◌, ◌+◌}
use native.Mathlib.Omega.{arith}
use mathlib.Core.Path.{◌≡◌, ap, sym, ◌∙◌}
use mathlib.Core.List.{◌∷◌}
use mathlib.Core.Bool.{false}
use lib.ListN.{length}
use Rattle.pieces.specs.Picture.{pixel}
use Rattle.fill.specs.Order.{seeds}
use Rattle.fill.specs.Stack.{held}
use Rattle.fill.proofs.Scan.{seeds_none, seeds_one}
use Rattle.fill.proofs.Entries.{held_length, held_push}
use Rattle.fill.proofs.seeds.seed_pixel.Goals as goal

pub returns-then-pic-base : goal.returns-then-pic-base
returns-then-pic-base c = sym (seeds_none _ _ _ _ _ _ c.requires.base_value.0 _ _ c.if-pic-base.true)

pub offset_bounds-stack-sp : goal.offset_bounds-stack-sp
offset_bounds-stack-sp c =
    let pushed : seeds (λ e. pixel e c.args.y) c.args.pic.now c.args.w c.args.from c.args.y c.args.x 1 false (held c.args.stack.now c.args.sp) ≡ pixel c.args.x c.args.y ∷ held c.args.stack.now c.args.sp = seeds_one _ _ _ _ _ _ c.requires.base_value.0 _ _ c.if-pic-base.false in
    let room : c.args.sp < length c.args.stack.now = omega (arith, ap length (pushed), c.requires.sp_in_bounds, held_length c.args.stack.now c.args.sp) in
    omega (arith, room, c.well_formed)

pub bounds-stack-sp : goal.bounds-stack-sp
bounds-stack-sp c =
    let pushed : seeds (λ e. pixel e c.args.y) c.args.pic.now c.args.w c.args.from c.args.y c.args.x 1 false (held c.args.stack.now c.args.sp) ≡ pixel c.args.x c.args.y ∷ held c.args.stack.now c.args.sp = seeds_one _ _ _ _ _ _ c.requires.base_value.0 _ _ c.if-pic-base.false in
    let room : c.args.sp < length c.args.stack.now = omega (arith, ap length (pushed), c.requires.sp_in_bounds, held_length c.args.stack.now c.args.sp) in
    room

pub overflow_add-result : goal.overflow_add-result
overflow_add-result c =
    let pushed : seeds (λ e. pixel e c.args.y) c.args.pic.now c.args.w c.args.from c.args.y c.args.x 1 false (held c.args.stack.now c.args.sp) ≡ pixel c.args.x c.args.y ∷ held c.args.stack.now c.args.sp = seeds_one _ _ _ _ _ _ c.requires.base_value.0 _ _ c.if-pic-base.false in
    let room : c.args.sp < length c.args.stack.now = omega (arith, ap length (pushed), c.requires.sp_in_bounds, held_length c.args.stack.now c.args.sp) in
    omega (arith, room, c.well_formed)

pub returns : goal.returns
returns c =
    let pushed : seeds (λ e. pixel e c.args.y) c.args.pic.now c.args.w c.args.from c.args.y c.args.x 1 false (held c.args.stack.now c.args.sp) ≡ pixel c.args.x c.args.y ∷ held c.args.stack.now c.args.sp = seeds_one _ _ _ _ _ _ c.requires.base_value.0 _ _ c.if-pic-base.false in
    let room : c.args.sp < length c.args.stack.now = omega (arith, ap length (pushed), c.requires.sp_in_bounds, held_length c.args.stack.now c.args.sp) in
    held_push c.args.stack.now c.args.sp _ _ (c.args.sp + 1) (room) (omega arith) (omega arith) ∙ sym (pushed)
