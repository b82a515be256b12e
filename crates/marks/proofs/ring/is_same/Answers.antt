-- `is_same` reads two pixels of a line. Assumes nothing.
use Prim.Native.Nat.{◌+◌, ◌*◌, ◌<◌}
use native.Mathlib.Omega.{arith}
use mathlib.Core.Path.{refl}
use lib.ListN.{length}
use Rattle.pieces.proofs.Index.{in_picture}
use Rattle.marks.proofs.ring.is_same.Goals as goal

pub overflow_mul-base : goal.overflow_mul-base
overflow_mul-base c =
    let left_stands : c.args.y * c.args.width + c.args.left < length c.args.pic.now = in_picture c.args.width c.args.height c.args.pic.now c.requires.0.whole _ _ c.requires.1 c.requires.3 in
    omega (arith, left_stands)

pub overflow_add-result : goal.overflow_add-result
overflow_add-result c =
    let left_stands : c.args.y * c.args.width + c.args.left < length c.args.pic.now = in_picture c.args.width c.args.height c.args.pic.now c.requires.0.whole _ _ c.requires.1 c.requires.3 in
    omega (arith, left_stands)

pub bounds-pic-base : goal.bounds-pic-base
bounds-pic-base c =
    let left_stands : c.args.y * c.args.width + c.args.left < length c.args.pic.now = in_picture c.args.width c.args.height c.args.pic.now c.requires.0.whole _ _ c.requires.1 c.requires.3 in
    left_stands

pub overflow_add-result-2 : goal.overflow_add-result-2
overflow_add-result-2 c =
    let right_stands : c.args.y * c.args.width + c.args.right < length c.args.pic.now = in_picture c.args.width c.args.height c.args.pic.now c.requires.0.whole _ _ c.requires.2 c.requires.3 in
    omega (arith, right_stands)

pub bounds-pic-base-2 : goal.bounds-pic-base-2
bounds-pic-base-2 c =
    let right_stands : c.args.y * c.args.width + c.args.right < length c.args.pic.now = in_picture c.args.width c.args.height c.args.pic.now c.requires.0.whole _ _ c.requires.2 c.requires.3 in
    right_stands

pub returns : goal.returns
returns c = refl
