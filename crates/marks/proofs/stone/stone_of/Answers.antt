-- `stone_of` makes the perspective of the corners, and goes on unless it is flat. Assumes nothing.
use mathlib.Core.Path.{sym, ◌∙◌}
use lib.Ieee.{of_bits}
use Rattle.marks.specs.Stone.{seen_stone, stone_of}
use Rattle.marks.proofs.stone.stone_of.Goals as goal

pub returns-in-Made : goal.returns-in-Made
unfolding stone_of seen_stone of_bits
returns-in-Made c =
    let seen = sym c.create.ensures ∙ c.in-Made.is in
    rw seen c.centred.ensures

pub returns-in-Flat : goal.returns-in-Flat
unfolding stone_of seen_stone of_bits
returns-in-Flat c =
    let seen = sym c.create.ensures ∙ c.in-Flat.is in
    rw seen
