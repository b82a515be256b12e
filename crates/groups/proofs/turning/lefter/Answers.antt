-- `lefter` compares the sides of two corners 0. Assumes nothing.
use Rattle.sizes.proofs.Size.{read_back}
use Rattle.corners.proofs.Small.{within_near}
use Rattle.groups.specs.Turn.{lefter}
use Rattle.groups.proofs.turning.lefter.Goals as goal

pub side_of-requires : goal.side_of-requires
side_of-requires c = record { fact_1 = c.requires.fact_3; fact_2 = c.requires.fact_4; fact_3 = within_near c.requires.fact_2.corner0 }

pub side_of-requires-2 : goal.side_of-requires-2
side_of-requires-2 c = record { fact_1 = c.requires.fact_3; fact_2 = c.requires.fact_4; fact_3 = within_near c.requires.fact_1.corner0 }

pub returns-then-side_of : goal.returns-then-side_of
unfolding lefter
returns-then-side_of c =
    let left = rw (read_back c.side_of-2.result c.side_of-2.type_inv, read_back c.side_of.result c.side_of.type_inv, c.side_of-2.ensures, c.side_of.ensures) at c.if-side_of.true in
    rw left

pub returns : goal.returns
unfolding lefter
returns c =
    let stays = rw (read_back c.side_of-2.result c.side_of-2.type_inv, read_back c.side_of.result c.side_of.type_inv, c.side_of-2.ensures, c.side_of.ensures) at c.if-side_of.false in
    rw stays
