-- `is_tame` tests the denominator's coefficients, then each numerator's. Assumes nothing.
use mathlib.Core.Path.{sym, ◌∙◌}
use Rattle.placed.specs.Tame.{tame}
use Rattle.placed.proofs.is_tame.Goals as goal

pub returns-then-not-is_within : goal.returns-then-not-is_within
unfolding tame
returns-then-not-is_within c = rw (sym c.slant-limit.ensures, sym c.is_within.ensures ∙ c.if-not-is_within.true)

pub returns-then-not-is_within-2 : goal.returns-then-not-is_within-2
unfolding tame
returns-then-not-is_within-2 c =
    rw (sym c.slant-limit.ensures, sym c.is_within.ensures ∙ c.if-not-is_within.false, sym c.is_within-2.ensures ∙ c.if-not-is_within-2.true)

pub returns-then-not-are_near : goal.returns-then-not-are_near
unfolding tame
returns-then-not-are_near c =
    rw (sym c.slant-limit.ensures, sym c.is_within.ensures ∙ c.if-not-is_within.false, sym c.is_within-2.ensures ∙ c.if-not-is_within-2.false, sym c.are_near.ensures ∙ c.if-not-are_near.true)

pub returns : goal.returns
unfolding tame
returns c =
    rw (sym c.slant-limit.ensures, sym c.is_within.ensures ∙ c.if-not-is_within.false, sym c.is_within-2.ensures ∙ c.if-not-is_within-2.false, sym c.are_near.ensures ∙ c.if-not-are_near.false)
    c.are_near-2.ensures
