-- `from_zero` hands its number on. Assumes nothing.
use native.Mathlib.Omega.{arith}
use mathlib.Core.Path.{◌≡◌, sym, ap, ◌∙◌}
use lib.IntN.{ℤ, pos, nat_abs}
use mir.Syntax.{w32}
use mir.Val.{to_z, of_z}
use mir.Facts.{to_z-of_z}
use Rattle.sizes.proofs.Size.{from_zero, size_fits}
use Rattle.cell_fitness.proofs.cell.from_zero.Goals as goal

pub overflow_cast-result : goal.overflow_cast-result
overflow_cast-result c =
    let is : to_z w32 (of_z w32 c.args.i) ≡ pos (nat_abs c.args.i) = to_z-of_z c.ranges.i ∙ from_zero _ c.requires in
    let few = size_fits c.ranges.i in rw (is) (tt, record { fits = omega arith })

pub returns : goal.returns
returns c = ap (λ (z : ℤ). pos (nat_abs z)) (to_z-of_z c.ranges.i) ∙ sym (from_zero _ c.requires)
