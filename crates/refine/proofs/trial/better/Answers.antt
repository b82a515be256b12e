-- `better` goes by the two scores. Assumes nothing.
use mathlib.Core.Path.{◌≡◌}
use mir.Syntax.{w32}
use mir.Val.{to_z, of_z}
use borrow.Author.Rules.{rules}
use Rattle.refine.specs.Refine.{better}
use Rattle.refine.proofs.trial.better.Goals as goal

pub returns-then-best-other : goal.returns-then-best-other
unfolding better
returns-then-best-other c =
    let a : to_z w32 (of_z w32 c.args.best.score) ≡ c.args.best.score = search rules in
    let b : to_z w32 (of_z w32 c.args.other.score) ≡ c.args.other.score = search rules in
    rw (rw (a, b) at c.if-best-other.true)

pub returns : goal.returns
unfolding better
returns c =
    let a : to_z w32 (of_z w32 c.args.best.score) ≡ c.args.best.score = search rules in
    let b : to_z w32 (of_z w32 c.args.other.score) ≡ c.args.other.score = search rules in
    rw (rw (a, b) at c.if-best-other.false)
