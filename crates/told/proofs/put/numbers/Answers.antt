-- `put::numbers` writes two whole numbers into the first places. Assumes nothing.
use mathlib.Core.Path.{◌≡◌, ◌∙◌}
use mathlib.Core.List.{[], ◌∷◌}
use mir.Syntax.{w32}
use mir.Val.{to_z, of_z}
use borrow.Author.Rules.{rules}
use Rattle.told.proofs.Tell.{tell_values, stored_two}
use Rattle.told.proofs.put.numbers.Goals as goal

pub returns : goal.returns
returns c =
    let same_x : to_z w32 (of_z w32 c.args.x) ≡ c.args.x = search rules in
    let same_y : to_z w32 (of_z w32 c.args.y) ≡ c.args.y = search rules in
    tell_values _ (rw (same_x, same_y) at c.numbers_at.ensures ∙ stored_two [] c.args.x c.args.y c.args.out.now c.requires)
