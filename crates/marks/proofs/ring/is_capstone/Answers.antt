-- `is_capstone` compares the two bytes, then the two regions. Assumes nothing.
use mathlib.Core.Path.{sym, ◌∙◌}
use Rattle.marks.proofs.ring.is_capstone.Goals as goal

pub is_same-requires : goal.is_same-requires
is_same-requires c =
    (c.requires.sized, c.requires.left_on, c.requires.right_on, c.requires.in_y)

pub returns-then-not-is_same : goal.returns-then-not-is_same
returns-then-not-is_same c =
    let same = sym c.is_same.ensures ∙ c.if-not-is_same.true in
    rw same

pub is_pair-requires : goal.is_pair-requires
is_pair-requires c =
    (c.requires.ring_counted, c.requires.stone_counted)

pub returns : goal.returns
returns c =
    let same = sym c.is_same.ensures ∙ c.if-not-is_same.false in
    rw same c.is_pair.ensures
