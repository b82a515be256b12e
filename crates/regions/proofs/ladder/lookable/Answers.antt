-- `lookable` goes on from the tests of sides, length, room and seed: what these refuse stands, else 9, 6 and 10 are tested. Assumes nothing.
use Rattle.std.proofs.lemmas.Result.{err_from_is_err_and}
use mathlib.Core.Path.{sym, ◌∙◌}
use mathlib.Core.List.{List}
use lib.ListN.{length}
use Rattle.refusals.specs.First.{Test, first, sound}
use Rattle.refusals.proofs.First.{Clear, first_after}
use Rattle.picture.specs.Sides.{seed_tests}
use Rattle.picture.proofs.Judged.{refusal_stands, sound_clear}
use Rattle.picture.proofs.Passed.{clear_seeded}
use Rattle.regions.specs.Tests.{own_tests}
use Rattle.regions.proofs.ladder.lookable.Goals as goal

pub own-requires : goal.own-requires
own-requires c =
    let before : List Test = seed_tests c.args.width c.args.height (length c.args.pic.now) c.args.lent c.args.x c.args.y in
    let passed : Clear (before) = sound_clear (before) c.seeded.ensures c.in_ok-seeded.was in
    let S = clear_seeded c.args.width c.args.height (length c.args.pic.now) c.args.lent c.args.x c.args.y (passed) in
    (S.sized, S.in_x, S.in_y)

pub returns-in_err-seeded : goal.returns-in_err-seeded
returns-in_err-seeded c =
    let before : List Test = seed_tests c.args.width c.args.height (length c.args.pic.now) c.args.lent c.args.x c.args.y in
    let after : List Test = own_tests c.args.pic.now c.args.width c.args.height c.args.table c.args.x c.args.y in
    let p = err_from_is_err_and c.from_residual.result c.from_residual.ensures.1 in
    rw (p.1, p.2) (refusal_stands (before) (after) sound c.seeded.ensures c.in_err-seeded.was)

pub returns : goal.returns
returns c =
    let before : List Test = seed_tests c.args.width c.args.height (length c.args.pic.now) c.args.lent c.args.x c.args.y in
    let after : List Test = own_tests c.args.pic.now c.args.width c.args.height c.args.table c.args.x c.args.y in
    let passed : Clear (before) = sound_clear (before) c.seeded.ensures c.in_ok-seeded.was in
    sym (first_after (before) (after) sound (passed) ∙ sym {b = first (after) sound} c.own.ensures)
