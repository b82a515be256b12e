-- `admitted` tests the centre, then the count. Assumes nothing.
use mathlib.Core.Path.{sym, ◌∙◌}
use borrow.Author.Tests.{le-leb, lt-leb}
use Rattle.marks.proofs.stone.admitted.Goals as goal

pub returns-then-not-is_near : goal.returns-then-not-is_near
returns-then-not-is_near c = rw (sym c.is_near.ensures ∙ c.if-not-is_near.true)

pub returns-then-n-ge64 : goal.returns-then-n-ge64
returns-then-n-ge64 c =
    rw (sym c.is_near.ensures ∙ c.if-not-is_near.false, le-leb _ _ c.if-n-ge64.true)

pub returns : goal.returns
returns c =
    rw (sym c.is_near.ensures ∙ c.if-not-is_near.false, lt-leb _ _ c.if-n-ge64.false)
