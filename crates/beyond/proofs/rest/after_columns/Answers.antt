-- `after_columns`: below two positions there are no alignment patterns. Assumes nothing.
use borrow.Author.Rules.{rules}
use Rattle.beyond.specs.Most.{after_columns}
use Rattle.beyond.proofs.rest.after_columns.Goals as goal

pub returns-then-n-lt2 : goal.returns-then-n-lt2
unfolding after_columns
returns-then-n-lt2 c = search rules

pub returns : goal.returns
unfolding after_columns
returns c = search rules
