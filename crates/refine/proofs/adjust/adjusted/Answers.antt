-- `adjusted` goes by whether the trial's number is even. Assumes nothing.
use borrow.Author.Tests.{eq-eqb, ne_eqb}
use Rattle.refine.specs.Adjust.{adjusted}
use Rattle.refine.proofs.adjust.adjusted.Goals as goal

pub returns-then-i-eq0 : goal.returns-then-i-eq0
unfolding adjusted
returns-then-i-eq0 c = rw (c.lower.ensures, c.coefficient-step.ensures, eq-eqb _ 0 c.if-i-eq0.true)

pub returns : goal.returns
unfolding adjusted
returns c = rw (c.raise.ensures, c.coefficient-step.ensures, ne_eqb _ 0 c.if-i-eq0.false)
