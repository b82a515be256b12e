-- `scored` puts a score beside its perspective, and refuses where there is none. Assumes nothing.
use mathlib.Core.Path.{◌≡◌}
use mir.Syntax.{w32}
use mir.Val.{to_z, of_z}
use borrow.Author.Rules.{rules}
use Rattle.refine.specs.Refine.{scored}
use Rattle.refine.proofs.trial.scored.Goals as goal

pub returns-in-Score : goal.returns-in-Score
unfolding scored
returns-in-Score c =
    let e : to_z w32 (of_z w32 c.in-Score.score) ≡ c.in-Score.score = search rules in
    rw (c.in-Score.is, e)

pub returns-in-Unplaced : goal.returns-in-Unplaced
unfolding scored
returns-in-Unplaced c = rw c.in-Unplaced.is
