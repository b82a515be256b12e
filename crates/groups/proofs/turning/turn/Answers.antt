-- `turn` moves each corner one place down. Assumes nothing.
use mathlib.Core.Path.{refl}
use Rattle.groups.specs.Turn.{turn}
use Rattle.groups.proofs.turning.turn.Goals as goal

pub returns : goal.returns
unfolding turn
returns c = refl
