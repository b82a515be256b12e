-- `detect` tests, and then detects. Assumes nothing.
use mathlib.Core.Path.{◌≡◌, refl, sym, ap, ◌∙◌}
use lib.ListN.{length}
use Rattle.refusals.specs.First.{first, sound}
use Rattle.picture.specs.Verdict.{judged}
use Rattle.detect.specs.Detect.{detect_tests, refuses, detects}
use Rattle.detect.proofs.whole.detect.Goals as goal

pub detect_kept-requires : goal.detect_kept-requires
detect_kept-requires c =
    let passed : first (detect_tests c.args.pic.now c.args.width c.args.height (length c.args.stack.now) (length c.args.scratch.now)) sound ≡ sound = sym c.detectable.ensures ∙ ap judged c.in-Ok.is in
    passed

pub returns-in-Err : goal.returns-in-Err
returns-in-Err c = (refuses _ (sym c.detectable.ensures ∙ ap judged c.in-Err.is) refl refl refl, tt)

pub returns-in-Ok : goal.returns-in-Ok
returns-in-Ok c =
    let passed : first (detect_tests c.args.pic.now c.args.width c.args.height (length c.args.stack.now) (length c.args.scratch.now)) sound ≡ sound = sym c.detectable.ensures ∙ ap judged c.in-Ok.is in
    (detects (passed) c.detect_kept.ensures.0, c.detect_kept.ensures.1)
