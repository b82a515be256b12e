-- `is_mark_like` tests the middle run first, then the others, and ends at the first that is not near. Assumes nothing.
use mathlib.Core.Path.{◌≡◌, refl, ◌∙◌}
use mathlib.Core.Bool.{◌&&◌}
use Prim.Native.Nat.{ℕ}
use lib.ListN.{get_or}
use Rattle.runs.specs.Mark.{near, error}
use Rattle.runs.proofs.Shares.{then_tested, else_untested, mark_tests}
use Rattle.runs.proofs.is_mark_like.Goals.{then-is_near, else-is_near, then-is_near-2, else-is_near-2, then-is_near-3, else-is_near-3}
use Rattle.runs.proofs.is_mark_like.Goals as goal

pub returns-then-is_near-4 : goal.returns-then-is_near-4
returns-then-is_near-4 c =
    let avg : ℕ = c.average_of-avg.result in
    let v1 : c.if-is_near.value ≡ (c.is_near.result && near (get_or c.args.runs 0 0) avg (error avg)) =
    elim c.if-is_near.branch [
      | then-is_near w ↦ then_tested w.if-is_near.true (w.value-is ∙ w.is_near-then-is_near.ensures)
      | else-is_near w ↦ else_untested _ w.if-is_near.false w.value-is
    ]
    in
    let v2 : c.if-is_near-2.value ≡ (c.if-is_near.value && near (get_or c.args.runs 1 0) avg (error avg)) =
    elim c.if-is_near-2.branch [
      | then-is_near-2 w ↦ then_tested w.if-is_near-2.true (w.value-is ∙ w.is_near-then-is_near-2.ensures)
      | else-is_near-2 w ↦ else_untested _ w.if-is_near-2.false w.value-is
    ]
    in
    let v3 : c.if-is_near-3.value ≡ (c.if-is_near-2.value && near (get_or c.args.runs 3 0) avg (error avg)) =
    elim c.if-is_near-3.branch [
      | then-is_near-3 w ↦ then_tested w.if-is_near-3.true (w.value-is ∙ w.is_near-then-is_near-3.ensures)
      | else-is_near-3 w ↦ else_untested _ w.if-is_near-3.false w.value-is
    ]
    in
    then_tested c.if-is_near-4.true c.is_near-then-is_near-4.ensures ∙ mark_tests c.args.runs c.average_of-avg.ensures.0 c.is_near.ensures v1 v2 v3

pub returns-else-is_near-4 : goal.returns-else-is_near-4
returns-else-is_near-4 c =
    let avg : ℕ = c.average_of-avg.result in
    let v1 : c.if-is_near.value ≡ (c.is_near.result && near (get_or c.args.runs 0 0) avg (error avg)) =
    elim c.if-is_near.branch [
      | then-is_near w ↦ then_tested w.if-is_near.true (w.value-is ∙ w.is_near-then-is_near.ensures)
      | else-is_near w ↦ else_untested _ w.if-is_near.false w.value-is
    ]
    in
    let v2 : c.if-is_near-2.value ≡ (c.if-is_near.value && near (get_or c.args.runs 1 0) avg (error avg)) =
    elim c.if-is_near-2.branch [
      | then-is_near-2 w ↦ then_tested w.if-is_near-2.true (w.value-is ∙ w.is_near-then-is_near-2.ensures)
      | else-is_near-2 w ↦ else_untested _ w.if-is_near-2.false w.value-is
    ]
    in
    let v3 : c.if-is_near-3.value ≡ (c.if-is_near-2.value && near (get_or c.args.runs 3 0) avg (error avg)) =
    elim c.if-is_near-3.branch [
      | then-is_near-3 w ↦ then_tested w.if-is_near-3.true (w.value-is ∙ w.is_near-then-is_near-3.ensures)
      | else-is_near-3 w ↦ else_untested _ w.if-is_near-3.false w.value-is
    ]
    in
    else_untested (near (get_or c.args.runs 4 0) avg (error avg)) c.if-is_near-4.false refl ∙ mark_tests c.args.runs c.average_of-avg.ensures.0 c.is_near.ensures v1 v2 v3
