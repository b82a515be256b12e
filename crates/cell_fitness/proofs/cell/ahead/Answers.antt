-- `ahead` goes by the rounded coordinate, which is not below 0. Assumes nothing.
use mathlib.Core.Path.{◌≡◌, sym, ◌∙◌}
use mir.Syntax.{w32}
use mir.Val.{to_z, of_z}
use Rattle.cell_fitness.specs.Along.{along}
use Rattle.cell_fitness.proofs.Places.{not_below, along_it}
use borrow.Author.Rules.{rules}
use Rattle.cell_fitness.proofs.cell.ahead.Goals as goal

pub from_zero-requires : goal.from_zero-requires
from_zero-requires c =
    let e : to_z w32 (of_z w32 c.in-Some.i) ≡ c.in-Some.i = search rules in
    rw e (not_below _ c.in-Some.i c.requires (sym c.nearest.ensures ∙ c.in-Some.is))

pub returns-in-Some : goal.returns-in-Some
returns-in-Some c =
    let e : to_z w32 (of_z w32 c.in-Some.i) ≡ c.in-Some.i = search rules in
    along_it _ _ c.in-Some.i (sym c.nearest.ensures ∙ c.in-Some.is) (c.from_zero.ensures ∙ e)

pub returns-in-None : goal.returns-in-None
unfolding along
returns-in-None c = rw (← c.nearest.ensures, c.in-None.is)
