-- `detectable` goes on from room to room and then to the bytes: what one of them refuses stands. Assumes nothing.
use Rattle.std.proofs.lemmas.Result.{err_from_is_err_and}
use mathlib.Core.Path.{sym, ◌∙◌}
use mathlib.Core.List.{[], ◌∷◌}
use lib.ListN.{length}
use Rattle.refusals.specs.First.{sound}
use Rattle.picture.specs.Sides.{room_test, room_tests}
use Rattle.picture.specs.Bitmap.{byte_test}
use Rattle.picture.proofs.Judged.{refusal_stands, sound_clear}
use Rattle.detect.proofs.Accepted.{then_scratch, then_bytes}
use Rattle.detect.proofs.ladder.detectable.Goals as goal

pub returns-in_err-room : goal.returns-in_err-room
returns-in_err-room c =
    let p = err_from_is_err_and c.from_residual.result c.from_residual.ensures.1 in
    rw (p.1, p.2) (refusal_stands (room_tests c.args.width c.args.height (length c.args.pic.now) c.args.lent) (room_test c.args.width c.args.height c.args.scratch ∷ byte_test c.args.pic.now ∷ []) sound c.room.ensures c.in_err-room.was)

pub returns-in_err-room-2 : goal.returns-in_err-room-2
returns-in_err-room-2 c =
    let stack = sound_clear (room_tests c.args.width c.args.height (length c.args.pic.now) c.args.lent) c.room.ensures c.in_ok-room.was in
    let p = err_from_is_err_and c.from_residual-in_err-room-2.result c.from_residual-in_err-room-2.ensures.1 in
    rw (p.1, p.2) (refusal_stands (room_tests c.args.width c.args.height (length c.args.pic.now) c.args.scratch) (byte_test c.args.pic.now ∷ []) sound c.room-2.ensures c.in_err-room-2.was
    ∙ sym (then_scratch c.args.pic.now c.args.width c.args.height c.args.lent c.args.scratch stack))

pub returns : goal.returns
returns c =
    let stack = sound_clear (room_tests c.args.width c.args.height (length c.args.pic.now) c.args.lent) c.room.ensures c.in_ok-room.was in
    let scratch = sound_clear (room_tests c.args.width c.args.height (length c.args.pic.now) c.args.scratch) c.room-2.ensures c.in_ok-room-2.was in
    c.accept.ensures ∙ sym (then_bytes c.args.pic.now c.args.width c.args.height c.args.lent c.args.scratch stack scratch)
