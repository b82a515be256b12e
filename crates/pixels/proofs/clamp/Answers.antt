-- `clamp` goes by the sign, and then by the side's end. Assumes nothing.
use Prim.Native.Nat.{◌≤◌, ◌<◌}
use native.Mathlib.Omega.{arith}
use mathlib.Core.Path.{◌≡◌, sym, ap, ◌∙◌}
use lib.IntN.{pos, nat_abs}
use mir.Syntax.{w32}
use mir.Val.{to_z, of_z}
use mir.Facts.{to_z-of_z}
use Rattle.sizes.proofs.Size.{from_zero, size_fits}
use Rattle.pixels.specs.Nearest.{clamped}
use Rattle.pixels.proofs.Clamped.{below, on_side, beyond}
use Rattle.pixels.proofs.clamp.Goals as goal

pub returns-then-z-lt0 : goal.returns-then-z-lt0
returns-then-z-lt0 c = (sym (below _ _ (rw (to_z-of_z c.ranges.z) at c.if-z-lt0.true)), c.requires.0)

pub overflow_cast-n : goal.overflow_cast-n
overflow_cast-n c =
    let is_size : c.args.z ≡ pos (nat_abs c.args.z) = from_zero _ (rw (to_z-of_z c.ranges.z) at c.if-z-lt0.false) in
    let read : to_z w32 (of_z w32 c.args.z) ≡ pos (nat_abs c.args.z) = to_z-of_z c.ranges.z ∙ is_size in
    let few = size_fits c.ranges.z in rw (read) (tt, record { fits = omega arith })

pub returns-then-n-side : goal.returns-then-n-side
returns-then-n-side c =
    let is_size : c.args.z ≡ pos (nat_abs c.args.z) = from_zero _ (rw (to_z-of_z c.ranges.z) at c.if-z-lt0.false) in
    let read : to_z w32 (of_z w32 c.args.z) ≡ pos (nat_abs c.args.z) = to_z-of_z c.ranges.z ∙ is_size in
    let size : nat_abs (to_z w32 (of_z w32 c.args.z)) ≡ nat_abs c.args.z = ap nat_abs (read) in
    let e = size in
    let low : nat_abs c.args.z < c.args.side = omega arith in
    (e ∙ sym (ap (clamped c.args.side) (is_size) ∙ on_side _ _ low), omega arith)

pub returns : goal.returns
returns c =
    let is_size : c.args.z ≡ pos (nat_abs c.args.z) = from_zero _ (rw (to_z-of_z c.ranges.z) at c.if-z-lt0.false) in
    let read : to_z w32 (of_z w32 c.args.z) ≡ pos (nat_abs c.args.z) = to_z-of_z c.ranges.z ∙ is_size in
    let size : nat_abs (to_z w32 (of_z w32 c.args.z)) ≡ nat_abs c.args.z = ap nat_abs (read) in
    let e = size in
    let high : c.args.side ≤ nat_abs c.args.z = omega arith in
    (sym (ap (clamped c.args.side) (is_size) ∙ beyond _ _ high), omega arith)
