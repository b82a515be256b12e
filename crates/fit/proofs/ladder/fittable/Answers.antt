-- `fittable` goes on from `room`: what that refuses stands, else fit's own tests are made. Assumes nothing.
use Rattle.std.proofs.lemmas.Result.{err_from_is_err_and}
use mathlib.Core.Path.{sym, ◌∙◌}
use mathlib.Core.List.{List}
use Rattle.refusals.specs.First.{Test, first, sound}
use Rattle.refusals.proofs.First.{Clear, first_after}
use Rattle.picture.specs.Sides.{room_tests}
use Rattle.picture.proofs.Judged.{refusal_stands, sound_clear}
use Rattle.picture.proofs.Passed.{clear_roomy}
use Rattle.fit.specs.Tests.{own_tests}
use Rattle.fit.proofs.ladder.fittable.Goals as goal

pub own-requires : goal.own-requires
own-requires c =
    let before : List Test = room_tests c.args.width c.args.height c.args.len c.args.lent in
    let passed : Clear (before) = sound_clear (before) c.room.ensures c.in_ok-room.was in
    let R = clear_roomy c.args.width c.args.height c.args.len c.args.lent (passed) in
    (R.sized.wide, R.sized.tall)

pub returns-in_err-room : goal.returns-in_err-room
returns-in_err-room c =
    let before : List Test = room_tests c.args.width c.args.height c.args.len c.args.lent in
    let after : List Test = own_tests c.args.width c.args.height c.args.scratch c.args.table c.args.group in
    let p = err_from_is_err_and c.from_residual.result c.from_residual.ensures.1 in
    rw (p.1, p.2) (refusal_stands (before) (after) sound c.room.ensures c.in_err-room.was)

pub returns : goal.returns
returns c =
    let before : List Test = room_tests c.args.width c.args.height c.args.len c.args.lent in
    let after : List Test = own_tests c.args.width c.args.height c.args.scratch c.args.table c.args.group in
    let passed : Clear (before) = sound_clear (before) c.room.ensures c.in_ok-room.was in
    sym (first_after (before) (after) sound (passed) ∙ sym {b = first (after) sound} c.own.ensures)
