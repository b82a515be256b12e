-- `step` goes by the state: each arm is its clause. Assumes nothing.
use mathlib.Core.Path.{sym, ◌∙◌, subst}
use Rattle.netpbm.specs.Machine.{stepped, Bounded}
use Rattle.netpbm.proofs.Numbers.{none_below, below_most}
use Rattle.netpbm.proofs.step.step.Goals as goal

pub in_width-requires : goal.in_width-requires
in_width-requires c = rw c.none.ensures none_below

pub in_width-requires-else-white-2 : goal.in_width-requires-else-white-2
in_width-requires-else-white-2 c = subst Bounded c.in-Width.is c.requires

pub in_height-requires : goal.in_height-requires
in_height-requires c = rw c.none-else-white-3.ensures none_below

pub sized-requires : goal.sized-requires
sized-requires c = let b = subst Bounded c.in-Height.is c.requires in (b.0, below_most _ b.1)

pub in_height-requires-else-white-4 : goal.in_height-requires-else-white-4
in_height-requires-else-white-4 c = let b = subst Bounded c.in-Height.is c.requires in b.1

pub in_pixels-requires : goal.in_pixels-requires
in_pixels-requires c = subst Bounded c.in-Pixels.is c.requires

pub returns-in-Nothing : goal.returns-in-Nothing
unfolding stepped
returns-in-Nothing c = rw (c.in-Nothing.is, c.reach.ensures)

pub returns-in-Letter : goal.returns-in-Letter
unfolding stepped
returns-in-Letter c = rw (c.in-Letter.is, c.reach-in-Letter.ensures)

pub returns-in-Magic : goal.returns-in-Magic
unfolding stepped
returns-in-Magic c = rw (c.in-Magic.is, c.reach-in-Magic.ensures, c.is_space-white.ensures)

pub returns-then-white : goal.returns-then-white
unfolding stepped
returns-then-white c = rw (c.in-BeforeWidth.is, sym c.is_space-white.ensures ∙ c.if-white.true)

pub returns-else-white : goal.returns-else-white
unfolding stepped
returns-else-white c = rw (c.in-BeforeWidth.is, sym c.is_space-white.ensures ∙ c.if-white.false, c.in_width.ensures, c.none.ensures)

pub returns-then-white-2 : goal.returns-then-white-2
unfolding stepped
returns-then-white-2 c = rw (c.in-Width.is, sym c.is_space-white.ensures ∙ c.if-white-2.true)

pub returns-else-white-2 : goal.returns-else-white-2
unfolding stepped
returns-else-white-2 c = rw (c.in-Width.is, sym c.is_space-white.ensures ∙ c.if-white-2.false, c.in_width-else-white-2.ensures)

pub returns-then-white-3 : goal.returns-then-white-3
unfolding stepped
returns-then-white-3 c = rw (c.in-BeforeHeight.is, sym c.is_space-white.ensures ∙ c.if-white-3.true)

pub returns-else-white-3 : goal.returns-else-white-3
unfolding stepped
returns-else-white-3 c = rw (c.in-BeforeHeight.is, sym c.is_space-white.ensures ∙ c.if-white-3.false, c.in_height.ensures, c.none-else-white-3.ensures)

pub returns-then-white-4 : goal.returns-then-white-4
unfolding stepped
returns-then-white-4 c = rw (c.in-Height.is, sym c.is_space-white.ensures ∙ c.if-white-4.true, c.sized.ensures)

pub returns-else-white-4 : goal.returns-else-white-4
unfolding stepped
returns-else-white-4 c = rw (c.in-Height.is, sym c.is_space-white.ensures ∙ c.if-white-4.false, c.in_height-else-white-4.ensures)

pub returns-then-white-5 : goal.returns-then-white-5
unfolding stepped
returns-then-white-5 c = rw (c.in-Pixels.is, sym c.is_space-white.ensures ∙ c.if-white-5.true)

pub returns-else-white-5 : goal.returns-else-white-5
unfolding stepped
returns-else-white-5 c = rw (c.in-Pixels.is, sym c.is_space-white.ensures ∙ c.if-white-5.false, c.in_pixels.ensures)

pub returns-in-Broken : goal.returns-in-Broken
unfolding stepped
returns-in-Broken c = rw c.in-Broken.is
