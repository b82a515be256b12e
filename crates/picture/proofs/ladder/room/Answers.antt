-- `room` goes on from `sides`: what that refuses stands, else 3 is tested. Assumes nothing.
use Rattle.std.proofs.lemmas.Result.{err_from_is_err_and}
use Prim.Native.Nat.{◌*◌}
use mathlib.Core.Path.{◌≡◌, sym, ◌∙◌}
use mathlib.Core.List.{List, [], ◌∷◌, ◌++◌}
use native.Mathlib.Omega.{arith}
use borrow.Author.Tests.{lt-ltb, le-ltb}
use Rattle.refusals.specs.First.{Test, first, sound}
use Rattle.refusals.proofs.First.{Clear, first_after}
use Rattle.picture.specs.Sides.{side_tests, room_test}
use Rattle.picture.proofs.Judged.{refusal_stands, sound_clear}
use Rattle.picture.proofs.Passed.{clear_sized}
use Rattle.picture.proofs.ladder.room.Goals as goal

pub returns-in_err-sides : goal.returns-in_err-sides
returns-in_err-sides c =
    let before : List Test = side_tests c.args.width c.args.height c.args.len in
    let after : List Test = room_test c.args.width c.args.height c.args.lent ∷ [] in
    let p = err_from_is_err_and c.from_residual.result c.from_residual.ensures.1 in
    rw (p.1, p.2) (refusal_stands (before) (after) sound c.sides.ensures c.in_err-sides.was)

pub returns-then-lent-len : goal.returns-then-lent-len
returns-then-lent-len c =
    let before : List Test = side_tests c.args.width c.args.height c.args.len in
    let after : List Test = room_test c.args.width c.args.height c.args.lent ∷ [] in
    let cleared : Clear (before) = sound_clear (before) c.sides.ensures c.in_ok-sides.was in
    let only : first (before ++ after) sound ≡ first (after) sound = first_after (before) (after) sound (cleared) in
    let whole : c.args.len ≡ c.args.width * c.args.height = (clear_sized c.args.width c.args.height c.args.len (cleared)).whole in
    sym (only ∙ rw (lt-ltb c.args.lent (c.args.width * c.args.height) (omega (arith, whole))))

pub returns : goal.returns
returns c =
    let before : List Test = side_tests c.args.width c.args.height c.args.len in
    let after : List Test = room_test c.args.width c.args.height c.args.lent ∷ [] in
    let cleared : Clear (before) = sound_clear (before) c.sides.ensures c.in_ok-sides.was in
    let only : first (before ++ after) sound ≡ first (after) sound = first_after (before) (after) sound (cleared) in
    let whole : c.args.len ≡ c.args.width * c.args.height = (clear_sized c.args.width c.args.height c.args.len (cleared)).whole in
    sym (only ∙ rw (le-ltb c.args.lent (c.args.width * c.args.height) (omega (arith, whole))))
