-- `tried` scores what the trial tries as far as it exceeds the best, and judges it. Assumes nothing.
use mathlib.Core.Path.{◌≡◌}
use mir.Syntax.{w32}
use mir.Val.{to_z, of_z}
use borrow.Author.Rules.{rules}
use Rattle.refine.specs.Refine.{trial}
use Rattle.refine.proofs.Capped.{judged_alike}
use Rattle.refine.proofs.trial.tried.Goals as goal

pub returns : goal.returns
unfolding trial
returns c =
    let b : to_z w32 (of_z w32 c.args.best.score) ≡ c.args.best.score = search rules in
    rw (c.judged.ensures, c.scored.ensures, c.adjusted-new.ensures)
    (judged_alike c.args.best _ _ _ (simp (b, c.adjusted-new.ensures) at c.fitness_beyond.ensures))
