-- `put::floats` writes two floats into the first places. Assumes nothing.
use mathlib.Core.List.{[], ◌∷◌}
use native.Mathlib.Omega.{arith}
use Rattle.told.proofs.Tell.{tell_values, stored_next}
use Rattle.told.proofs.put.floats.Goals as goal

pub returns : goal.returns
returns c =
    tell_values _ (rw (stored_next [] c.args.u c.args.out.now (omega arith)) (stored_next (c.args.u ∷ []) c.args.v c.args.out.now c.requires))
