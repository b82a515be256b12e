-- `dark_at` goes by the pixel, where the picture has one at the two places. Assumes nothing.
use Prim.Native.Nat.{◌+◌, ◌*◌, ◌<◌}
use native.Mathlib.Omega.{arith}
use mathlib.Core.Path.{ap, ◌∙◌}
use lib.ListN.{length}
use Rattle.refusals.specs.Finding.{found}
use Rattle.pieces.proofs.Index.{in_picture}
use Rattle.cell_fitness.specs.Score.{extent}
use Rattle.cell_fitness.proofs.Dark.{dark_white, dark_coloured}
use Rattle.cell_fitness.proofs.Shown.{seen_behind, seen_below, seen_inside}
use Rattle.cell_fitness.proofs.cell.dark_at.Goals as goal

pub returns-then-x-width : goal.returns-then-x-width
returns-then-x-width c =
    record { is = c.beside.ensures.is ∙ seen_behind _ _ _ _ _ c.if-x-width.true; small = c.beside.ensures.small }

pub returns-then-y-height : goal.returns-then-y-height
returns-then-y-height c =
    record { is = c.beside-then-y-height.ensures.is ∙ seen_below _ _ _ _ _ c.if-y-height.true; small = c.beside-then-y-height.ensures.small }

pub overflow_mul-y : goal.overflow_mul-y
overflow_mul-y c =
    let stands : c.args.y * c.args.width + c.args.x < length c.args.pic.now = in_picture c.args.width c.args.height c.args.pic.now c.requires.whole _ _ c.if-x-width.false c.if-y-height.false in
    omega (arith, stands)

pub overflow_add-y : goal.overflow_add-y
overflow_add-y c =
    let stands : c.args.y * c.args.width + c.args.x < length c.args.pic.now = in_picture c.args.width c.args.height c.args.pic.now c.requires.whole _ _ c.if-x-width.false c.if-y-height.false in
    omega (arith, stands)

pub bounds-pic-y : goal.bounds-pic-y
bounds-pic-y c =
    let stands : c.args.y * c.args.width + c.args.x < length c.args.pic.now = in_picture c.args.width c.args.height c.args.pic.now c.requires.whole _ _ c.if-x-width.false c.if-y-height.false in
    stands

pub returns-then-pic-y-eq0 : goal.returns-then-pic-y-eq0
unfolding extent
returns-then-pic-y-eq0 c =
    record { is = ap found (dark_white _ _ _ _ _ c.if-x-width.false c.if-y-height.false c.if-pic-y-eq0.true) ∙ seen_inside _ _ _ _ _ c.if-x-width.false c.if-y-height.false; small = omega arith }

pub returns : goal.returns
unfolding extent
returns c =
    record { is = ap found (dark_coloured _ _ _ _ _ c.if-x-width.false c.if-y-height.false c.if-pic-y-eq0.false) ∙ seen_inside _ _ _ _ _ c.if-x-width.false c.if-y-height.false; small = omega arith }
