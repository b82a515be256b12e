-- `judge` goes on from `room`: what that refuses stands, else `accept` tests the bytes. Assumes nothing.
use Rattle.std.proofs.lemmas.Result.{err_from_is_err_and}
use mathlib.Core.Path.{sym, ◌∙◌}
use mathlib.Core.List.{[], ◌∷◌}
use lib.ListN.{length}
use Rattle.refusals.specs.First.{sound}
use Rattle.picture.specs.Sides.{room_tests}
use Rattle.picture.specs.Bitmap.{byte_test}
use Rattle.picture.proofs.Judged.{refusal_stands, sound_clear}
use Rattle.marks.proofs.Begin.{then_bytes}
use Rattle.marks.proofs.bitmap.judge.Goals as goal

pub returns-in_err-room : goal.returns-in_err-room
returns-in_err-room c =
    let p = err_from_is_err_and c.from_residual.result c.from_residual.ensures.1 in
    rw (p.1, p.2) (refusal_stands (room_tests c.args.width c.args.height (length c.args.pic.now) c.args.lent) (byte_test c.args.pic.now ∷ []) sound c.room.ensures c.in_err-room.was)

pub returns : goal.returns
returns c =
    c.accept.ensures ∙ sym (then_bytes c.args.pic.now c.args.width c.args.height c.args.lent (sound_clear (room_tests c.args.width c.args.height (length c.args.pic.now) c.args.lent) c.room.ensures c.in_ok-room.was))
