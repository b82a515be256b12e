-- `judge` goes on from `seeded`: what that refuses stands, else the seed's byte and the target are tested. Assumes nothing.
use Rattle.std.proofs.lemmas.Result.{err_from_is_err_and}
use Prim.Native.Nat.{◌+◌, ◌*◌, ◌<◌}
use native.Mathlib.Omega.{arith}
use mathlib.Core.Path.{sym, ◌∙◌}
use mathlib.Core.List.{List}
use lib.ListN.{length}
use Rattle.refusals.specs.First.{Test, sound}
use Rattle.refusals.proofs.First.{Clear, first_after}
use Rattle.picture.specs.Sides.{seed_tests}
use Rattle.picture.proofs.Judged.{refusal_stands, sound_clear}
use Rattle.picture.proofs.Passed.{clear_seeded}
use Rattle.pieces.specs.Picture.{px}
use Rattle.pieces.proofs.Index.{in_picture}
use Rattle.claim.specs.Tests.{paint_tests}
use Rattle.claim.proofs.judge.Goals as goal

pub overflow_mul-line : goal.overflow_mul-line
overflow_mul-line c =
    let before : List Test = seed_tests c.args.width c.args.height (length c.args.pic.now) c.args.lent c.args.x c.args.y in
    let cleared : Clear (before) = sound_clear (before) c.seeded.ensures c.in_ok-seeded.was in
    let inside : c.args.y * c.args.width + c.args.x < length c.args.pic.now =
    let k = clear_seeded c.args.width c.args.height (length c.args.pic.now) c.args.lent c.args.x c.args.y (cleared) in
    in_picture c.args.width c.args.height c.args.pic.now k.sized.whole c.args.x c.args.y k.in_x k.in_y
    in
    omega (arith, inside)

pub overflow_add-line : goal.overflow_add-line
overflow_add-line c =
    let before : List Test = seed_tests c.args.width c.args.height (length c.args.pic.now) c.args.lent c.args.x c.args.y in
    let cleared : Clear (before) = sound_clear (before) c.seeded.ensures c.in_ok-seeded.was in
    let inside : c.args.y * c.args.width + c.args.x < length c.args.pic.now =
    let k = clear_seeded c.args.width c.args.height (length c.args.pic.now) c.args.lent c.args.x c.args.y (cleared) in
    in_picture c.args.width c.args.height c.args.pic.now k.sized.whole c.args.x c.args.y k.in_x k.in_y
    in
    omega (arith, inside)

pub bounds-pic-line : goal.bounds-pic-line
bounds-pic-line c =
    let before : List Test = seed_tests c.args.width c.args.height (length c.args.pic.now) c.args.lent c.args.x c.args.y in
    let cleared : Clear (before) = sound_clear (before) c.seeded.ensures c.in_ok-seeded.was in
    let inside : c.args.y * c.args.width + c.args.x < length c.args.pic.now =
    let k = clear_seeded c.args.width c.args.height (length c.args.pic.now) c.args.lent c.args.x c.args.y (cleared) in
    in_picture c.args.width c.args.height c.args.pic.now k.sized.whole c.args.x c.args.y k.in_x k.in_y
    in
    inside

pub returns-in_err-seeded : goal.returns-in_err-seeded
returns-in_err-seeded c =
    let before : List Test = seed_tests c.args.width c.args.height (length c.args.pic.now) c.args.lent c.args.x c.args.y in
    let after : List Test = paint_tests (px c.args.pic.now c.args.width c.args.x c.args.y) c.args.target in
    let p = err_from_is_err_and c.from_residual.result c.from_residual.ensures.1 in
    rw (p.1, p.2) (refusal_stands (before) (after) sound c.seeded.ensures c.in_err-seeded.was)

pub returns : goal.returns
returns c =
    let before : List Test = seed_tests c.args.width c.args.height (length c.args.pic.now) c.args.lent c.args.x c.args.y in
    let after : List Test = paint_tests (px c.args.pic.now c.args.width c.args.x c.args.y) c.args.target in
    let cleared : Clear (before) = sound_clear (before) c.seeded.ensures c.in_ok-seeded.was in
    c.paintable.ensures ∙ sym (first_after (before) (after) sound (cleared))
