-- `has_ended` looks for the line feed where all was the same. Assumes nothing.
use lib.ListN.{length}
use borrow.Author.Tests.{lt-ltb, le-ltb, not-true, not-false}
use Rattle.vectors.specs.Checks.{ended}
use Rattle.vectors.proofs.checks.has_ended.Goals as goal

pub returns-then-not-check : goal.returns-then-not-check
unfolding ended
returns-then-not-check c = rw (not-true c.args.check.same c.if-not-check.true)

pub returns-then-at-text : goal.returns-then-at-text
unfolding ended
returns-then-at-text c =
    rw (not-false c.args.check.same c.if-not-check.false, lt-ltb c.args.check.at (length c.args.text.now) c.if-at-text.true)

pub returns : goal.returns
unfolding ended
returns c =
    rw (not-false c.args.check.same c.if-not-check.false, le-ltb c.args.check.at (length c.args.text.now) c.if-at-text.false)
