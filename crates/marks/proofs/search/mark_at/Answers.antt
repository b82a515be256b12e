-- `mark_at` makes the stone of a ring that passes the test. Assumes nothing.
use mathlib.Core.Path.{refl, sym, ◌∙◌}
use Rattle.marks.specs.Search.{no_mark, a_mark}
use Rattle.marks.proofs.search.mark_at.Goals as goal

pub is_capstone-requires : goal.is_capstone-requires
is_capstone-requires c = c.requires.testable

pub returns-then-not-is_capstone : goal.returns-then-not-is_capstone
returns-then-not-is_capstone c = no_mark (sym c.is_capstone.ensures ∙ c.if-not-is_capstone.true) refl refl

pub create_capstone-requires : goal.create_capstone-requires
create_capstone-requires c =
    c.requires.ringed (sym c.is_capstone.ensures ∙ c.if-not-is_capstone.false)

pub returns : goal.returns
returns c =
    a_mark (sym c.is_capstone.ensures ∙ c.if-not-is_capstone.false) c.create_capstone.ensures
