-- `seek` claims the place that the search answers, if it answers one. Assumes nothing.
use native.Mathlib.Omega.{arith}
use mathlib.Core.Path.{refl, ap}
use Rattle.alignment.specs.Search.{meaning}
use Rattle.alignment.proofs.Spiralling.{still_roomy}
use Rattle.alignment.proofs.Sighted.{search_sights}
use Rattle.alignment.proofs.Aligned.{sighted_claimable}
use Rattle.fourth_corner.specs.Corner.{stopped, claimed}
use Rattle.fourth_corner.proofs.seek.Goals as goal

pub leftmost-point-requires : goal.leftmost-point-requires
leftmost-point-requires c =
    let place = rw c.in-Ok-Some.is at c.in-Ok-Some.field-0-is in
    let seen = search_sights (ap meaning (rw place at c.in-Ok-Some.is)) c.find_alignment_pattern-sought.ensures in
    sighted_claimable (still_roomy c.requires.0.roomy c.find_alignment_pattern-sought.auto.pic (omega (arith, c.find_alignment_pattern-sought.auto.stack))) seen c.requires.2

pub returns-in_default-2 : goal.returns-in_default-2
returns-in_default-2 c =
    let is = ap meaning c.in_default.is in
    record { sight = _; between = _; spirals = c.find_alignment_pattern-sought.ensures; takes = stopped _ is is refl }

pub returns : goal.returns
returns c =
    let place = rw c.in-Ok-Some.is at c.in-Ok-Some.field-0-is in
    record {
      sight = _;
      between = _;
      spirals = c.find_alignment_pattern-sought.ensures;
      takes = claimed _ _ (ap meaning (rw place at c.in-Ok-Some.is)) c.leftmost-point.ensures refl;
    }
