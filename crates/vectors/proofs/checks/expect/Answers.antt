-- `expect` goes on behind the word, whatever it says. Assumes nothing.
use Rattle.vectors.proofs.Expecting.{expect_same, expect_other}
use Rattle.vectors.proofs.checks.expect.Goals as goal

pub returns-then-word-value : goal.returns-then-word-value
returns-then-word-value c =
    expect_same c.args.text.now c.args.check c.read_word-word.result c.args.value c.read_word-word.ensures c.if-word-value.true

pub returns : goal.returns
returns c =
    expect_other c.args.text.now c.args.check c.read_word-word.result c.args.value c.read_word-word.ensures c.if-word-value.false
