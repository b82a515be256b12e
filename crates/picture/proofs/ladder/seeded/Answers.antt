-- `seeded` goes on from `room`: what that refuses stands, else 5 is tested. Assumes nothing.
use Rattle.std.proofs.lemmas.Result.{err_from_is_err_and}
use mathlib.Core.Path.{◌≡◌, sym, ◌∙◌}
use mathlib.Core.List.{List, [], ◌∷◌, ◌++◌}
use borrow.Author.Tests.{lt-ltb, le-ltb}
use Rattle.refusals.specs.First.{Test, first, sound}
use Rattle.refusals.proofs.First.{first_after}
use Rattle.picture.specs.Sides.{room_tests, outside_test}
use Rattle.picture.proofs.Judged.{refusal_stands, sound_clear}
use Rattle.picture.proofs.ladder.seeded.Goals as goal

pub returns-then-x-width : goal.returns-then-x-width
returns-then-x-width c =
    let before : List Test = room_tests c.args.width c.args.height c.args.len c.args.lent in
    let after : List Test = outside_test c.args.width c.args.height c.args.x c.args.y ∷ [] in
    let only : first (before ++ after) sound ≡ first (after) sound = first_after (before) (after) sound (sound_clear (before) c.room.ensures c.in_ok-room.was) in
    sym (only ∙ rw (le-ltb c.args.x c.args.width c.if-x-width.true))

pub returns-then-y-height : goal.returns-then-y-height
returns-then-y-height c =
    let before : List Test = room_tests c.args.width c.args.height c.args.len c.args.lent in
    let after : List Test = outside_test c.args.width c.args.height c.args.x c.args.y ∷ [] in
    let only : first (before ++ after) sound ≡ first (after) sound = first_after (before) (after) sound (sound_clear (before) c.room.ensures c.in_ok-room.was) in
    sym (only ∙ rw (lt-ltb c.args.x c.args.width c.if-x-width.false, le-ltb c.args.y c.args.height c.if-y-height.true))

pub returns-in_err-room : goal.returns-in_err-room
returns-in_err-room c =
    let before : List Test = room_tests c.args.width c.args.height c.args.len c.args.lent in
    let after : List Test = outside_test c.args.width c.args.height c.args.x c.args.y ∷ [] in
    let p = err_from_is_err_and c.from_residual.result c.from_residual.ensures.1 in
    rw (p.1, p.2) (refusal_stands (before) (after) sound c.room.ensures c.in_err-room.was)

pub returns : goal.returns
returns c =
    let before : List Test = room_tests c.args.width c.args.height c.args.len c.args.lent in
    let after : List Test = outside_test c.args.width c.args.height c.args.x c.args.y ∷ [] in
    let only : first (before ++ after) sound ≡ first (after) sound = first_after (before) (after) sound (sound_clear (before) c.room.ensures c.in_ok-room.was) in
    sym (only ∙ rw (lt-ltb c.args.x c.args.width c.if-x-width.false, lt-ltb c.args.y c.args.height c.if-y-height.false))
