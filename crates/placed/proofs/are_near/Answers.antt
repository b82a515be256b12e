-- `are_near` tests one coefficient after the other. Assumes nothing.
use mathlib.Core.Path.{sym, ◌∙◌}
use lib.Ieee.{of_bits}
use Rattle.placed.specs.Tame.{near}
use Rattle.placed.proofs.are_near.Goals as goal

pub returns-then-not-is_within : goal.returns-then-not-is_within
unfolding near of_bits
returns-then-not-is_within c = rw (sym c.is_within.ensures ∙ c.if-not-is_within.true)

pub returns-then-not-is_within-2 : goal.returns-then-not-is_within-2
unfolding near of_bits
returns-then-not-is_within-2 c =
    rw (sym c.is_within.ensures ∙ c.if-not-is_within.false, sym c.is_within-2.ensures ∙ c.if-not-is_within-2.true)

pub returns : goal.returns
unfolding near of_bits
returns c =
    rw (sym c.is_within.ensures ∙ c.if-not-is_within.false, sym c.is_within-2.ensures ∙ c.if-not-is_within-2.false) c.is_within-3.ensures
