-- `gather` hands a refusal on, or groups the stones and finishes. Assumes nothing.
use Rattle.std.specs.Prelude.{Result}
use Rattle.refusals.specs.declared.Refusal.{Refusal}
use mathlib.Core.Path.{refl, ap, subst}
use Prim.Native.Nat.{ℕ}
use lib.Seq.{length-take-le}
use Rattle.laid.specs.Laid.{told}
use Rattle.marks.specs.Search.{stones_of}
use Rattle.groupings.specs.Held.{groups_of}
use Rattle.groupings.proofs.Copy.{still_workable}
use Rattle.detect.specs.Stages.{Named, unmarked, grouped}
use Rattle.detect.proofs.Ready.{marks_long, array_named}
use Rattle.detect.proofs.stages.gather.Goals as goal

pub finish-requires : goal.finish-requires
finish-requires c =
    let long = length-take-le c.args.marks.n c.args.marks.stones (marks_long c.args.marks c.requires.2) in
    let N = subst (λ (k : ℕ). Named k (groups_of c.find_groupings-found.result)) long (array_named c.find_groupings-found.result c.find_groupings-found.ensures.1 c.find_groupings-found.ensures.0) in
    (still_workable c.requires.0 c.find_groupings-found.auto.stack, c.requires.2, c.requires.3, c.find_groupings-found.ensures.1, N, c.find_groupings-found.ensures.2)

pub returns-in-Err : goal.returns-in-Err
unfolding told
returns-in-Err c =
    (unmarked _ (ap (λ (v : Result (Unit {0}) Refusal). told v (stones_of c.args.marks)) c.in-Err.is) refl refl refl, tt)

pub returns-in-Ok : goal.returns-in-Ok
unfolding told
returns-in-Ok c =
    let sound = ap (λ (v : Result (Unit {0}) Refusal). told v (stones_of c.args.marks)) c.in-Ok.is in
    (grouped (stones_of c.args.marks) sound _ c.find_groupings-found.ensures.0 c.finish.ensures.0, c.finish.ensures.1)
