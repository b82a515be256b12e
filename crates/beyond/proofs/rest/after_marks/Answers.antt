-- `after_marks` adds the timing lines. Assumes nothing.
use borrow.Author.Rules.{rules}
use Rattle.beyond.specs.Most.{after_marks}
use Rattle.beyond.proofs.rest.after_marks.Goals as goal

pub returns : goal.returns
unfolding after_marks
returns c = search rules
