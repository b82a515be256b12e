-- `accept` goes on from `sides`: what that refuses stands, else 4 is tested. Assumes nothing.
use Rattle.std.proofs.lemmas.Result.{err_from_is_err_and}
use mathlib.Core.Path.{◌≡◌, sym, ◌∙◌}
use mathlib.Core.List.{List, [], ◌∷◌, ◌++◌}
use lib.ListN.{length}
use Rattle.refusals.specs.First.{Test, first, sound}
use Rattle.refusals.proofs.First.{first_after}
use Rattle.picture.specs.Sides.{side_tests}
use Rattle.picture.specs.Bitmap.{byte_test}
use Rattle.picture.proofs.Judged.{refusal_stands, sound_clear}
use Rattle.picture.proofs.bitmap.accept.Goals as goal

pub returns-in_err-sides : goal.returns-in_err-sides
returns-in_err-sides c =
    let before : List Test = side_tests c.args.width c.args.height (length c.args.pic.now) in
    let after : List Test = byte_test c.args.pic.now ∷ [] in
    let p = err_from_is_err_and c.from_residual.result c.from_residual.ensures.1 in
    rw (p.1, p.2) (refusal_stands (before) (after) sound c.sides.ensures c.in_err-sides.was)

pub returns : goal.returns
returns c =
    let before : List Test = side_tests c.args.width c.args.height (length c.args.pic.now) in
    let after : List Test = byte_test c.args.pic.now ∷ [] in
    let only : first (before ++ after) sound ≡ first (after) sound = first_after (before) (after) sound (sound_clear (before) c.sides.ensures c.in_ok-sides.was) in
    sym (only ∙ rw (sym c.is_bitmap.ensures ∙ c.if-not-is_bitmap.false))

pub returns-then-not-is_bitmap : goal.returns-then-not-is_bitmap
returns-then-not-is_bitmap c =
    let before : List Test = side_tests c.args.width c.args.height (length c.args.pic.now) in
    let after : List Test = byte_test c.args.pic.now ∷ [] in
    let only : first (before ++ after) sound ≡ first (after) sound = first_after (before) (after) sound (sound_clear (before) c.sides.ensures c.in_ok-sides.was) in
    sym (only ∙ rw (sym c.is_bitmap.ensures ∙ c.if-not-is_bitmap.true))
