-- `unsigned_abs` meets its contract, by the sign that the test shows. Assumes nothing.
use native.Mathlib.Omega.{arith}
use mathlib.Core.Path.{◌≡◌, ◌∙◌}
use lib.IntN.{pos, nat_abs, ◌-ℤ◌}
use mir.Syntax.{w32}
use mir.Val.{SFits, to_z, of_z}
use mir.Facts.{to_z-of_z}
use Rattle.sizes.proofs.Size.{fits_size, below_zero, from_zero}
use Rattle.sizes.proofs.unsigned_abs.Goals as goal

pub overflow_sub-result : goal.overflow_sub-result
overflow_sub-result c =
    let z_neg : pos 0 -ℤ to_z w32 (of_z w32 c.args.z) ≡ pos (nat_abs c.args.z) =
    let e = to_z-of_z c.ranges.z in
    rw e (below_zero c.args.z (rw e at c.if-z-lt0.true))
    in
    let size_fits : SFits w32 (pos (nat_abs c.args.z)) = fits_size c.requires in
    rw (z_neg) (size_fits)

pub overflow_cast-result : goal.overflow_cast-result
overflow_cast-result c =
    let z_neg : pos 0 -ℤ to_z w32 (of_z w32 c.args.z) ≡ pos (nat_abs c.args.z) =
    let e = to_z-of_z c.ranges.z in
    rw e (below_zero c.args.z (rw e at c.if-z-lt0.true))
    in
    let size_fits : SFits w32 (pos (nat_abs c.args.z)) = fits_size c.requires in
    rw (z_neg, to_z-of_z (size_fits)) (tt, record { fits = omega arith })

pub returns-then-z-lt0 : goal.returns-then-z-lt0
returns-then-z-lt0 c =
    let z_neg : pos 0 -ℤ to_z w32 (of_z w32 c.args.z) ≡ pos (nat_abs c.args.z) =
    let e = to_z-of_z c.ranges.z in
    rw e (below_zero c.args.z (rw e at c.if-z-lt0.true))
    in
    let size_fits : SFits w32 (pos (nat_abs c.args.z)) = fits_size c.requires in
    rw (z_neg, to_z-of_z (size_fits))

pub overflow_cast-result-2 : goal.overflow_cast-result-2
overflow_cast-result-2 c =
    let z_pos : to_z w32 (of_z w32 c.args.z) ≡ pos (nat_abs c.args.z) =
    let e = to_z-of_z c.ranges.z in
    e ∙ from_zero _ (rw e at c.if-z-lt0.false)
    in
    rw (z_pos) (tt, record { fits = omega arith })

pub returns : goal.returns
returns c =
    let z_pos : to_z w32 (of_z w32 c.args.z) ≡ pos (nat_abs c.args.z) =
    let e = to_z-of_z c.ranges.z in
    e ∙ from_zero _ (rw e at c.if-z-lt0.false)
    in
    rw (z_pos)
