-- `remembered` keeps a grid beside its corners. Assumes nothing.
use Rattle.std.specs.Prelude.{Some, Ok}
use mathlib.Core.Path.{◌≡◌, sym, ap, ◌∙◌}
use Rattle.grids.specs.Grid.{meaning}
use Rattle.setups.proofs.remembered.Goals as goal

pub returns-in-Ok-Some : goal.returns-in-Ok-Some
returns-in-Ok-Some c p w h is known =
    let some : c.in-Ok-Some.field-0 ≡ Some c.in-Ok-Some.grid = rw c.in-Ok-Some.is at c.in-Ok-Some.field-0-is in
    record { is = λ made. sym is ∙ (ap meaning c.in-Ok-Some.is ∙ ap (λ o. meaning (Ok o)) some) }
