-- `digit_at` looks no further than the text goes. Assumes nothing.
use lib.ListN.{length}
use borrow.Author.Rules.{rules}
use borrow.Author.Tests.{lt-ltb, le-ltb}
use Rattle.vectors.specs.Words.{digit_at}
use Rattle.vectors.proofs.words.digit_at.Goals as goal

pub returns-then-at-text : goal.returns-then-at-text
unfolding digit_at
returns-then-at-text c =
    rw (lt-ltb c.args.at (length c.args.text.now) c.if-at-text.true) (c.digit_of.ensures.0, c.digit_of.ensures.1, λ _. c.if-at-text.true)

pub returns : goal.returns
unfolding digit_at
returns c =
    rw (le-ltb c.args.at (length c.args.text.now) c.if-at-text.false) (search rules)
