-- `cross` meets its contract: the sizes of the products say that both fit, and the result. Assumes nothing.
use lib.IntN.{◌-ℤ◌, ◌*ℤ◌}
use mir.Syntax.{w32}
use mir.Val.{SFits}
use mir.Facts.{to_z-of_z}
use Rattle.sizes.proofs.Size.{fits_first, fits_second, fits_cross}
use Rattle.sizes.proofs.cross.Goals as goal

pub overflow_mul-result : goal.overflow_mul-result
overflow_mul-result c =
    let ax : SFits w32 (c.args.a *ℤ c.args.x) = fits_first c.args.a c.args.x c.args.b c.args.y c.requires in
    simp (to_z-of_z c.ranges.a, to_z-of_z c.ranges.x, to_z-of_z c.ranges.b, to_z-of_z c.ranges.y) (ax)

pub overflow_mul-result-2 : goal.overflow_mul-result-2
overflow_mul-result-2 c =
    let by : SFits w32 (c.args.b *ℤ c.args.y) = fits_second c.args.a c.args.x c.args.b c.args.y c.requires in
    simp (to_z-of_z c.ranges.a, to_z-of_z c.ranges.x, to_z-of_z c.ranges.b, to_z-of_z c.ranges.y) (by)

pub overflow_sub-result : goal.overflow_sub-result
overflow_sub-result c =
    let ax : SFits w32 (c.args.a *ℤ c.args.x) = fits_first c.args.a c.args.x c.args.b c.args.y c.requires in
    let by : SFits w32 (c.args.b *ℤ c.args.y) = fits_second c.args.a c.args.x c.args.b c.args.y c.requires in
    let all : SFits w32 (c.args.a *ℤ c.args.x -ℤ c.args.b *ℤ c.args.y) = fits_cross c.args.a c.args.x c.args.b c.args.y c.requires in
    simp (to_z-of_z c.ranges.a, to_z-of_z c.ranges.x, to_z-of_z c.ranges.b, to_z-of_z c.ranges.y, to_z-of_z (ax), to_z-of_z (by)) (all)

pub returns : goal.returns
returns c =
    let ax : SFits w32 (c.args.a *ℤ c.args.x) = fits_first c.args.a c.args.x c.args.b c.args.y c.requires in
    let by : SFits w32 (c.args.b *ℤ c.args.y) = fits_second c.args.a c.args.x c.args.b c.args.y c.requires in
    let all : SFits w32 (c.args.a *ℤ c.args.x -ℤ c.args.b *ℤ c.args.y) = fits_cross c.args.a c.args.x c.args.b c.args.y c.requires in
    simp (to_z-of_z c.ranges.a, to_z-of_z c.ranges.x, to_z-of_z c.ranges.b, to_z-of_z c.ranges.y, to_z-of_z (ax), to_z-of_z (by))
    (to_z-of_z (all))
