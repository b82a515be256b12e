-- `rounding::plus` meets its contract. Assumes nothing.
use mir.Syntax.{w32}
use mir.Facts.{to_z_pos}
use Rattle.rounding.proofs.plus.Goals as goal

pub returns : goal.returns
returns c = to_z_pos w32 c.requires
