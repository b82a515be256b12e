-- `place` goes by the two rounded coordinates. Assumes nothing.
use mathlib.Core.Path.{◌≡◌}
use mir.Syntax.{w32}
use mir.Val.{to_z, of_z}
use Rattle.geometry.specs.Map.{placed}
use borrow.Author.Rules.{rules}
use Rattle.geometry.proofs.map.place.Goals as goal

pub returns-in_err-nearest : goal.returns-in_err-nearest
unfolding placed
returns-in_err-nearest c =
    rw (c.from_residual.ensures, ← c.nearest.ensures, c.in_err-nearest.was)

pub returns-in_err-nearest-2 : goal.returns-in_err-nearest-2
unfolding placed
returns-in_err-nearest-2 c =
    rw (c.from_residual-in_err-nearest-2.ensures, ← c.nearest.ensures, ← c.nearest-2.ensures, c.in_ok-nearest.was, c.in_err-nearest-2.was)

pub returns : goal.returns
unfolding placed
returns c =
    let ex : to_z w32 (of_z w32 c.in_ok-nearest.field-0) ≡ c.in_ok-nearest.field-0 = search rules in
    let ey : to_z w32 (of_z w32 c.in_ok-nearest-2.field-0) ≡ c.in_ok-nearest-2.field-0 = search rules in
    rw (← c.nearest.ensures, ← c.nearest-2.ensures, c.in_ok-nearest.was, c.in_ok-nearest-2.was, ex, ey)
