-- `find_corner` goes by the size, then by the estimate. Assumes nothing.
use mathlib.Core.Path.{refl, sym, ap, ◌∙◌}
use Rattle.alignment.specs.Estimate as estimate
use Rattle.alignment.proofs.Areas.{estimate_few}
use Rattle.fourth_corner.specs.Corner.{plain, unguessed, sought}
use Rattle.fourth_corner.proofs.find_corner.Goals as goal

pub returns-then-outline-le21 : goal.returns-then-outline-le21
returns-then-outline-le21 c = plain c.if-outline-le21.true refl refl refl

pub seek-requires : goal.seek-requires
seek-requires c =
    let is = sym c.size_estimate.ensures ∙ ap estimate.meaning c.in-Ok.is in
    (c.requires.0, c.requires.1.corner, c.requires.1.direction, estimate_few _ _ _ c.in-Ok.n is)

pub returns-in-Ok : goal.returns-in-Ok
returns-in-Ok c =
    let is = sym c.size_estimate.ensures ∙ ap estimate.meaning c.in-Ok.is in
    sought c.if-outline-le21.false c.in-Ok.n is c.seek.ensures

pub returns-in-Err : goal.returns-in-Err
returns-in-Err c =
    let is = sym c.size_estimate.ensures ∙ ap estimate.meaning c.in-Err.is in
    unguessed c.if-outline-le21.false _ is refl refl refl
