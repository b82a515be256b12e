-- `behind` goes by whether there is a rounded coordinate, which is below 0. Assumes nothing.
use mathlib.Core.Path.{sym, ap, ◌∙◌}
use Rattle.cell_fitness.specs.Along.{along}
use Rattle.cell_fitness.proofs.Places.{place_before}
use Rattle.cell_fitness.proofs.cell.behind.Goals as goal

pub returns-in-Some : goal.returns-in-Some
returns-in-Some c =
    let e = sym c.nearest.ensures ∙ c.in-Some.is in
    place_before _ c.in-Some.i c.requires e ∙ sym (ap along e)

pub returns-in-None : goal.returns-in-None
unfolding along
returns-in-None c = rw (← c.nearest.ensures, c.in-None.is)
