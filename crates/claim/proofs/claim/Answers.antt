-- `claim` refuses what `judge` refuses, with the picture as it was, and else leaves the fill's outcome. Assumes nothing.
use Rattle.std.proofs.lemmas.Result.{err_from_is_err_and}
use mathlib.Core.Path.{◌≡◌, refl, sym, ap, ◌∙◌}
use lib.ListN.{length}
use Rattle.refusals.specs.First.{first, sound}
use Rattle.picture.specs.Verdict.{judged}
use Rattle.claim.specs.Tests.{claim_tests}
use Rattle.claim.proofs.Accepted.{claim_fillable, claims_piece}
use Rattle.claim.proofs.claim.Goals as goal

pub paint_and_count-requires : goal.paint_and_count-requires
paint_and_count-requires c =
    let passed : first (claim_tests c.args.pic.now c.args.width c.args.height (length c.args.stack.now) c.args.x c.args.y c.args.target) sound ≡ sound = sym c.judge.ensures ∙ ap judged c.in_ok-judge.was in
    claim_fillable _ _ _ _ _ _ _ (passed)

pub returns-in_err-judge : goal.returns-in_err-judge
returns-in_err-judge c =
    let p = err_from_is_err_and c.from_residual.result c.from_residual.ensures.1 in
    rw (p.1, p.2) (sym c.judge.ensures ∙ ap judged c.in_err-judge.was, refl)

pub returns : goal.returns
returns c =
    let passed : first (claim_tests c.args.pic.now c.args.width c.args.height (length c.args.stack.now) c.args.x c.args.y c.args.target) sound ≡ sound = sym c.judge.ensures ∙ ap judged c.in_ok-judge.was in
    let k = passed in
    (k, claims_piece _ _ _ _ _ _ _ k c.paint_and_count.ensures.0 c.paint_and_count.ensures.1)
