-- `fit_group` tests, and then fits. Assumes nothing.
use mathlib.Core.Path.{◌≡◌, refl, sym, ap, ◌∙◌}
use lib.ListN.{length}
use Rattle.refusals.specs.First.{first, sound}
use Rattle.picture.specs.Verdict.{judged}
use Rattle.fit.specs.Tests.{fit_tests}
use Rattle.fit.specs.Fit.{refuses, fits}
use Rattle.fit.proofs.Taken.{fittable}
use Rattle.fit.proofs.whole.fit_group.Goals as goal

pub fit_kept-requires : goal.fit_kept-requires
fit_kept-requires c =
    let passed : first (fit_tests c.args.width c.args.height (length c.args.pic.now) (length c.args.stack.now) (length c.args.scratch.now) c.args.table c.args.group) sound ≡ sound = sym c.fittable.ensures ∙ ap judged c.in-Ok.is in
    let F = fittable _ _ _ _ _ _ _ (passed) in
    (F.workable, F.scratch, F.centred, F.cornered)

pub returns-in-Err : goal.returns-in-Err
returns-in-Err c =
    let is = sym c.fittable.ensures ∙ ap judged c.in-Err.is in
    refuses _ refl is refl refl

pub returns-in-Ok : goal.returns-in-Ok
returns-in-Ok c =
    let passed : first (fit_tests c.args.width c.args.height (length c.args.pic.now) (length c.args.stack.now) (length c.args.scratch.now) c.args.table c.args.group) sound ≡ sound = sym c.fittable.ensures ∙ ap judged c.in-Ok.is in
    fits (passed) c.fit_kept.ensures
