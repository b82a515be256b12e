-- `read_cell` goes on from `sides`: 16 is tested, then the middle is mapped and looked at. Assumes nothing.
use Rattle.std.proofs.lemmas.Result.{err_from_is_err_and}
use mathlib.Core.Path.{◌≡◌, sym, ap, ◌∙◌}
use mathlib.Core.Bool.{Bool}
use mathlib.Core.List.{List, [], ◌∷◌, ◌++◌}
use lib.Ieee.{of_bits}
use lib.ListN.{length}
use borrow.Author.Tests.{lt-ltb, le-ltb}
use Rattle.refusals.specs.Finding.{Finding}
use Rattle.refusals.specs.First.{Test, first}
use Rattle.refusals.proofs.First.{Clear, first_after}
use Rattle.picture.specs.Sides.{side_tests}
use Rattle.picture.proofs.Judged.{refusal_stands, sound_clear}
use Rattle.picture.proofs.Passed.{clear_sized}
use Rattle.geometry.specs.Map.{mapped}
use Rattle.cells.specs.Cell.{index_test, middle, shown, cell_of}
use Rattle.cells.proofs.read_cell.Goals as goal

pub returns-then-x-size : goal.returns-then-x-size
unfolding cell_of
returns-then-x-size c =
    let before : List Test = side_tests c.args.width c.args.height (length c.args.pic.now) in
    let after : List Test = index_test c.args.size c.args.y c.args.x ∷ [] in
    let answer : Finding Bool = shown c.args.pic.now c.args.width c.args.height (mapped c.args.c (middle c.args.x) (middle c.args.y)) in
    let cleared : Clear (before) = sound_clear (before) c.sides.ensures c.in_ok-sides.was in
    let only : first (before ++ after) (answer) ≡ first (after) (answer) = first_after (before) (after) (answer) (cleared) in
    sym (only ∙ rw (le-ltb c.args.x c.args.size c.if-x-size.true))

pub returns-then-y-size : goal.returns-then-y-size
unfolding cell_of
returns-then-y-size c =
    let before : List Test = side_tests c.args.width c.args.height (length c.args.pic.now) in
    let after : List Test = index_test c.args.size c.args.y c.args.x ∷ [] in
    let answer : Finding Bool = shown c.args.pic.now c.args.width c.args.height (mapped c.args.c (middle c.args.x) (middle c.args.y)) in
    let cleared : Clear (before) = sound_clear (before) c.sides.ensures c.in_ok-sides.was in
    let only : first (before ++ after) (answer) ≡ first (after) (answer) = first_after (before) (after) (answer) (cleared) in
    sym (only ∙ rw (lt-ltb c.args.x c.args.size c.if-x-size.false, le-ltb c.args.y c.args.size c.if-y-size.true))

pub cell_of-requires : goal.cell_of-requires
cell_of-requires c =
    let before : List Test = side_tests c.args.width c.args.height (length c.args.pic.now) in
    let cleared : Clear (before) = sound_clear (before) c.sides.ensures c.in_ok-sides.was in
    clear_sized _ _ _ (cleared)

pub returns-in_err-sides : goal.returns-in_err-sides
unfolding cell_of
returns-in_err-sides c =
    let before : List Test = side_tests c.args.width c.args.height (length c.args.pic.now) in
    let after : List Test = index_test c.args.size c.args.y c.args.x ∷ [] in
    let answer : Finding Bool = shown c.args.pic.now c.args.width c.args.height (mapped c.args.c (middle c.args.x) (middle c.args.y)) in
    let p = err_from_is_err_and c.from_residual.result c.from_residual.ensures.1 in
    rw (p.1, p.2) (refusal_stands (before) (after) (answer) c.sides.ensures c.in_err-sides.was)

pub returns : goal.returns
unfolding cell_of of_bits
returns c =
    let before : List Test = side_tests c.args.width c.args.height (length c.args.pic.now) in
    let after : List Test = index_test c.args.size c.args.y c.args.x ∷ [] in
    let answer : Finding Bool = shown c.args.pic.now c.args.width c.args.height (mapped c.args.c (middle c.args.x) (middle c.args.y)) in
    let cleared : Clear (before) = sound_clear (before) c.sides.ensures c.in_ok-sides.was in
    let only : first (before ++ after) (answer) ≡ first (after) (answer) = first_after (before) (after) (answer) (cleared) in
    let read = c.cell_of.ensures ∙ ap (shown c.args.pic.now c.args.width c.args.height) c.map-spot.ensures in
    sym (only ∙ rw (lt-ltb c.args.x c.args.size c.if-x-size.false, lt-ltb c.args.y c.args.size c.if-y-size.false) (sym read))
