-- `side_of` computes a difference of two products, which are small enough. Assumes nothing.
use borrow.Author.Rules.{rules}
use mathlib.Core.Path.{sym, subst}
use Rattle.sizes.proofs.Size.{read_back}
use Rattle.corners.specs.Scores.{Direction, across_of}
use Rattle.corners.proofs.Small.{way_direction}
use Rattle.groups.specs.Side.{side_of}
use Rattle.groups.proofs.Beside.{span_back, cross_low}
use Rattle.groups.proofs.sides.side_of.Goals as goal

pub cross-requires : goal.cross-requires
cross-requires c =
    let way : Direction c.line_from-way.result = subst Direction (sym c.line_from-way.ensures) (way_direction c.requires.fact_1 c.requires.fact_3) in
    let w = way in search (rules, cross_low)

pub returns : goal.returns
unfolding side_of across_of
returns c =
    let way : Direction c.line_from-way.result = subst Direction (sym c.line_from-way.ensures) (way_direction c.requires.fact_1 c.requires.fact_3) in
    let w = way in
    rw (
      read_back c.cross.result c.cross.type_inv,
      c.cross.ensures,
      span_back w.y,
      span_back c.requires.fact_2.x,
      span_back w.x,
      span_back c.requires.fact_2.y,
      c.line_from-way.ensures,
    )
