-- `point_at`: a column and a line of a picture fit an i32. Assumes nothing.
use native.Mathlib.Omega.{arith}
use Prim.Native.Nat.{◌<◌, ◌^◌}
use mir.Syntax.{w32}
use mir.Facts.{to_z_pos}
use Rattle.corners.proofs.places.point_at.Goals as goal

pub returns : goal.returns
returns c =
    let x : c.args.x < 2 ^ 31 = omega arith in
    let y : c.args.y < 2 ^ 31 = omega arith in
    rw (to_z_pos w32 x, to_z_pos w32 y)
