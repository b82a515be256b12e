-- `look_up` refuses what its tests refuse, and else answers as `get_region` does. Assumes nothing.
use mathlib.Core.Path.{◌≡◌, refl, sym, ap, ◌∙◌}
use lib.ListN.{length}
use Rattle.refusals.specs.First.{first, sound}
use Rattle.picture.specs.Verdict.{judged}
use Rattle.regions.specs.Tests.{look_tests}
use Rattle.regions.specs.Lookup.{refuses, answers}
use Rattle.regions.proofs.Accepted.{lookable}
use Rattle.regions.proofs.look_up.Goals as goal

pub get_region-requires : goal.get_region-requires
get_region-requires c =
    let passed : first (look_tests c.args.pic.now c.args.width c.args.height (length c.args.stack.now) c.args.table c.args.x c.args.y) sound ≡ sound = sym c.lookable.ensures ∙ ap judged c.in-Ok.is in
    lookable _ _ _ _ _ _ _ (passed)

pub returns-in-Err : goal.returns-in-Err
returns-in-Err c = refuses _ refl (sym c.lookable.ensures ∙ ap judged c.in-Err.is) refl refl

pub returns-in-Ok : goal.returns-in-Ok
returns-in-Ok c =
    let passed : first (look_tests c.args.pic.now c.args.width c.args.height (length c.args.stack.now) c.args.table c.args.x c.args.y) sound ≡ sound = sym c.lookable.ensures ∙ ap judged c.in-Ok.is in
    answers c.get_region.ensures.0 c.get_region.ensures.1 (passed) c.get_region.ensures.2
