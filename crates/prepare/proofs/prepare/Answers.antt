-- `prepare` goes on from `sides`: what that refuses stands and the picture with it, else the picture is shaded. Assumes nothing.
use Rattle.std.proofs.lemmas.Result.{err_from_is_err_and}
use mathlib.Core.Path.{sym, ap, ◌∙◌}
use lib.ListN.{length}
use Rattle.picture.specs.Verdict.{judged}
use Rattle.picture.proofs.Passed.{sized}
use Rattle.prepare.proofs.Promise.{refused_kept, sound_painted}
use Rattle.prepare.proofs.prepare.Goals as goal

pub threshold-requires : goal.threshold-requires
threshold-requires c =
    sized c.args.width c.args.height (length c.args.pic.now) (sym c.sides.ensures ∙ ap judged c.in_ok-sides.was)

pub returns-in_err-sides : goal.returns-in_err-sides
returns-in_err-sides c =
    let p = err_from_is_err_and c.from_residual.result c.from_residual.ensures.1 in
    rw (p.1, p.2) (refused_kept c.args.width c.args.height c.args.pic.now c.sides.result c.sides.ensures c.in_err-sides.field-0.0 c.in_err-sides.was)

pub returns : goal.returns
returns c =
    sound_painted c.args.width c.args.height c.args.pic.now c.sides.result c.sides.ensures c.threshold.new.pic c.in_ok-sides.was c.threshold.ensures
