-- `shade` answers a pixel's byte with no division. Assumes nothing.
use Prim.Native.Nat.{◌+◌, ◌*◌}
use mathlib.Core.Path.{sym}
use native.Mathlib.Omega.{arith}
use native.Mathlib.Nat.{mul-le-mul}
use Rattle.prepare.proofs.Shades.{shade_black, shade_white}
use Rattle.prepare.proofs.threshold.shade.Goals as goal

pub overflow_mul-pixel : goal.overflow_mul-pixel
overflow_mul-pixel c = omega (arith, mul-le-mul {n₁ = c.args.pixel + 1} {m₁ = 40 * c.args.s} {n₂ = 256} {m₂ = 4000} (omega arith) (omega arith))

pub returns-then-pixel-limit : goal.returns-then-pixel-limit
returns-then-pixel-limit c = sym (shade_black c.args.s c.args.pixel c.args.sum (omega arith) c.if-pixel-limit.true)

pub returns-else-pixel-limit : goal.returns-else-pixel-limit
returns-else-pixel-limit c = sym (shade_white c.args.s c.args.pixel c.args.sum (omega arith) c.if-pixel-limit.false)
