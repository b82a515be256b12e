-- `orient` tests the side of the second centre, and swaps where it lies to the right. Assumes nothing.
use mathlib.Core.Path.{sym, subst}
use Rattle.sizes.proofs.Size.{read_back}
use Rattle.corners.specs.Scores.{Direction}
use Rattle.corners.proofs.Small.{way_direction}
use Rattle.groups.specs.Orient.{oriented}
use Rattle.groups.proofs.orienting.orient.Goals as goal

pub side_of-requires : goal.side_of-requires
side_of-requires c =
    let line : Direction c.line_from-hd.result = subst Direction (sym c.line_from-hd.ensures) (way_direction c.requires.first c.requires.third) in
    record { fact_1 = c.requires.first; fact_2 = line; fact_3 = c.requires.second }

pub reversed-back-requires : goal.reversed-back-requires
reversed-back-requires c =
    let line : Direction c.line_from-hd.result = subst Direction (sym c.line_from-hd.ensures) (way_direction c.requires.first c.requires.third) in
    line

pub returns-then-side_of-gt0 : goal.returns-then-side_of-gt0
unfolding oriented
returns-then-side_of-gt0 c =
    let right = rw (read_back c.side_of.result c.side_of.type_inv, c.side_of.ensures, c.line_from-hd.ensures) at c.if-side_of-gt0.true in
    rw (c.reversed-back.ensures, c.line_from-hd.ensures, right)

pub returns : goal.returns
unfolding oriented
returns c =
    let left = rw (read_back c.side_of.result c.side_of.type_inv, c.side_of.ensures, c.line_from-hd.ensures) at c.if-side_of-gt0.false in
    rw (c.line_from-hd.ensures, left)
