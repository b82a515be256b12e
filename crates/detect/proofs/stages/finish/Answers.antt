-- `finish` hands a refusal on, or fits the groups and tells what is located. Assumes nothing.
use Rattle.std.specs.Prelude.{Result}
use Rattle.refusals.specs.declared.Refusal.{Refusal}
use mathlib.Core.Path.{refl, ap}
use Rattle.laid.specs.Laid.{told}
use Rattle.groupings.specs.Held.{groups_of}
use Rattle.detect.specs.Stages.{ungrouped}
use Rattle.detect.proofs.Ready.{marks_long, groups_long, all_ready}
use Rattle.detect.proofs.Staged.{finish_fits}
use Rattle.detect.proofs.stages.finish.Goals as goal

pub fit_all-located-requires : goal.fit_all-located-requires
fit_all-located-requires c =
    (c.requires.0, c.requires.3.few, all_ready c.args.found.groups c.args.found.n (groups_long c.args.found c.requires.3) c.requires.2 c.requires.4, c.requires.5)

pub with_locations-requires : goal.with_locations-requires
with_locations-requires c = c.fit_all-located.ensures.1

pub returns-in-Err : goal.returns-in-Err
unfolding told
returns-in-Err c =
    (ungrouped _ (ap (λ (v : Result (Unit {0}) Refusal). told v (groups_of c.args.found)) c.in-Err.is) refl refl refl, tt)

pub returns-in-Ok : goal.returns-in-Ok
unfolding told
returns-in-Ok c =
    let sound = ap (λ (v : Result (Unit {0}) Refusal). told v (groups_of c.args.found)) c.in-Ok.is in
    (finish_fits c.args.marks (groups_of c.args.found) (marks_long c.args.marks c.requires.1) sound c.requires.4 c.fit_all-located.ensures.0 c.with_locations.ensures.0, c.with_locations.ensures.1)
