-- `line_intersect` meets its contract: lines through pixels are small. Assumes nothing.
use Rattle.lines.specs.Meet.{meet_of}
use Rattle.lines.proofs.Bounds.{line_small}
use Rattle.lines.proofs.line_intersect.Goals as goal

pub line_through-requires : goal.line_through-requires
line_through-requires c = record { fact_1 = c.requires.fact_1; fact_2 = c.requires.fact_2 }

pub line_through-requires-2 : goal.line_through-requires-2
line_through-requires-2 c = record { fact_1 = c.requires.fact_3; fact_2 = c.requires.fact_4 }

pub solve-requires : goal.solve-requires
solve-requires c =
    record { fact_1 = rw c.line_through.ensures (line_small _ _ c.requires.fact_1 c.requires.fact_2); fact_2 = rw c.line_through-2.ensures (line_small _ _ c.requires.fact_3 c.requires.fact_4) }

pub returns : goal.returns
unfolding meet_of
returns c = rw (c.solve.ensures, c.line_through.ensures, c.line_through-2.ensures)
