-- `put::number` writes one whole number into the first place. Assumes nothing.
use mathlib.Core.Path.{◌≡◌}
use mathlib.Core.List.{[]}
use mir.Syntax.{w32}
use mir.Val.{to_z, of_z}
use borrow.Author.Rules.{rules}
use Rattle.told.proofs.Tell.{tell_values, stored_next}
use Rattle.told.proofs.put.number.Goals as goal

pub returns : goal.returns
returns c =
    let same : to_z w32 (of_z w32 c.args.z) ≡ c.args.z = search rules in
    tell_values _ (rw same (stored_next [] c.args.z c.args.out.now c.requires))
