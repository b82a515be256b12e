-- `put_size` writes a grid's size as a whole number. Assumes nothing.
use Prim.Native.Nat.{◌<◌}
use native.Mathlib.Omega.{arith}
use mir.Syntax.{w32}
use mir.Facts.{to_z_pos}
use Rattle.exports_detect.proofs.places.put_size.Goals as goal

pub returns : goal.returns
returns c = let low : c.args.size < 2147483648 = omega (arith, c.ranges.size.fits) in rw (to_z_pos w32 low)
