-- `detect_kept` takes the paint off where a stage refuses. Assumes nothing.
use mathlib.Core.Path.{refl, ap, ◌∙◌, subst}
use lib.ListN.{length}
use Rattle.refusals.specs.Finding.{Finding}
use Rattle.detect.specs.Telling.{Telling, outcome}
use Rattle.detect.specs.Stages.{Finds}
use Rattle.detect.specs.Detect.{finds, puts_back}
use Rattle.detect.proofs.Staged.{finds_keeps}
use Rattle.detect.proofs.Accepted.{starts_work, scratch_room, paint_off}
use Rattle.detect.proofs.whole.detect_kept.Goals as goal

pub find-done-requires : goal.find-done-requires
find-done-requires c =
    (starts_work c.args.pic.now c.args.width c.args.height (length c.args.stack.now) (length c.args.scratch.now) c.requires, scratch_room c.args.pic.now c.args.width c.args.height (length c.args.stack.now) (length c.args.scratch.now) c.requires)

pub returns-in-Err : goal.returns-in-Err
returns-in-Err c =
    let K = finds_keeps (starts_work _ _ _ _ _ c.requires) c.find-done.ensures.0 in
    let back = c.blacken.ensures ∙ paint_off _ _ _ _ _ c.requires K in
    let G = subst (λ (f : Finding Telling). Finds c.args.pic.now c.args.width c.args.height f c.find-done.new.pic c.find-done.result.table) (ap outcome c.in-Err.is) c.find-done.ensures.0 in
    (puts_back _ _ _ G refl back refl, tt)

pub returns-in-Ok : goal.returns-in-Ok
returns-in-Ok c =
    let is = ap outcome c.in-Ok.is in
    let G = subst (λ (f : Finding Telling). Finds c.args.pic.now c.args.width c.args.height f c.find-done.new.pic c.find-done.result.table) is c.find-done.ensures.0 in
    (finds _ G is, c.find-done.ensures.1)
