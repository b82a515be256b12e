-- `get_pixel_at_point` reads the picture at both clamped coordinates. Assumes nothing.
use Prim.Native.Nat.{◌+◌, ◌*◌, ◌<◌}
use native.Mathlib.Omega.{arith}
use mathlib.Core.Path.{◌≡◌}
use lib.ListN.{length}
use mir.Syntax.{w32}
use mir.Val.{to_z, of_z}
use borrow.Author.Rules.{rules}
use Rattle.pieces.proofs.Index.{in_picture}
use Rattle.pixels.specs.Nearest.{shown_at}
use Rattle.pixels.proofs.get_pixel_at_point.Goals as goal

pub overflow_mul-result : goal.overflow_mul-result
overflow_mul-result c =
    let stands : c.clamp-y.result * c.args.width + c.clamp-x.result < length c.args.pic.now = in_picture c.args.width c.args.height c.args.pic.now c.requires.whole _ _ c.clamp-x.ensures.1 c.clamp-y.ensures.1 in
    omega (arith, stands)

pub overflow_add-result : goal.overflow_add-result
overflow_add-result c =
    let stands : c.clamp-y.result * c.args.width + c.clamp-x.result < length c.args.pic.now = in_picture c.args.width c.args.height c.args.pic.now c.requires.whole _ _ c.clamp-x.ensures.1 c.clamp-y.ensures.1 in
    omega (arith, stands)

pub bounds-pic-y : goal.bounds-pic-y
bounds-pic-y c =
    let stands : c.clamp-y.result * c.args.width + c.clamp-x.result < length c.args.pic.now = in_picture c.args.width c.args.height c.args.pic.now c.requires.whole _ _ c.clamp-x.ensures.1 c.clamp-y.ensures.1 in
    stands

pub returns : goal.returns
unfolding shown_at
returns c =
    let ex : to_z w32 (of_z w32 c.args.p.x) ≡ c.args.p.x = search rules in
    let ey : to_z w32 (of_z w32 c.args.p.y) ≡ c.args.p.y = search rules in
    rw (c.clamp-x.ensures.0, c.clamp-y.ensures.0, ex, ey)
