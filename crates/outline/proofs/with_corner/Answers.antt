-- `with_corner` draws the outline where its corner is not refused. Assumes nothing.
use Rattle.std.proofs.lemmas.Result.{err_from_is_err_and}
use mathlib.Core.Path.{sym, ap, ◌∙◌}
use Rattle.stated.specs.Stated as stated
use Rattle.outline.specs.Outline.{cornered, judged_outline}
use Rattle.outline.proofs.with_corner.Goals as goal

pub returns-in_err-p : goal.returns-in_err-p
unfolding judged_outline cornered
returns-in_err-p c =
    let at = sym c.judge.ensures ∙ ap stated.meaning c.in_err-p.was in
    let p = err_from_is_err_and c.from_residual.result c.from_residual.ensures.1 in
    rw (p.1, p.2, at)

pub returns : goal.returns
unfolding judged_outline cornered
returns c =
    let at = sym c.judge.ensures ∙ ap stated.meaning c.in_ok-p.was in
    rw at
