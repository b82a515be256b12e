-- `list_rows` paints its piece and writes each row: each need is a law of Listing. Assumes nothing.
use native.Mathlib.Omega.{arith}
use borrow.Author.Rules.{rules}
use Rattle.fill.proofs.Filling.{room_some}
use Rattle.told_claims.proofs.Listing.{listing_begun, listing_asks, listing_length, listing_room, listing_met, listing_met_less, listing_passed, listing_passed_less, listing_end}
use Rattle.told_claims.proofs.rows.list_rows.Goals as goal

pub seed-from-requires : goal.seed-from-requires
seed-from-requires c = (c.requires.fact_1.sized, c.requires.fact_1.in_x, c.requires.fact_1.in_y, room_some c.requires.fact_1)

pub loop-sp-init : goal.loop-sp-init
loop-sp-init c =
    listing_begun c.requires.fact_1 c.seed-from.ensures.0 (search rules) c.seed-from.ensures.1 c.args.out.now c.requires.fact_2

pub fill_step-requires : goal.fill_step-requires
fill_step-requires c = listing_asks c.loop-sp.invariant c.loop-sp-test.true

pub put_row-requires : goal.put_row-requires
put_row-requires c = listing_room c.loop-sp.invariant c.loop-sp-test.true

pub overflow_add-at : goal.overflow_add-at
overflow_add-at c =
    let room = listing_room c.loop-sp.invariant c.loop-sp-test.true in
    let same = listing_length c.loop-sp.invariant in
    record { fits = omega (arith, c.well_formed) }

pub loop-sp-smaller-in-Met : goal.loop-sp-smaller-in-Met
loop-sp-smaller-in-Met c =
    listing_met_less c.loop-sp.invariant c.loop-sp-test.true c.fill_step.ensures c.in-Met.is

pub loop-sp-preserved-in-Met : goal.loop-sp-preserved-in-Met
loop-sp-preserved-in-Met c =
    rw c.put_row.ensures (listing_met c.loop-sp.invariant c.loop-sp-test.true c.fill_step.ensures c.in-Met.is (search rules) (search rules))

pub loop-sp-smaller : goal.loop-sp-smaller
loop-sp-smaller c =
    listing_passed_less c.loop-sp.invariant c.loop-sp-test.true c.fill_step.ensures c.in-Passed.is

pub loop-sp-preserved : goal.loop-sp-preserved
loop-sp-preserved c =
    listing_passed c.loop-sp.invariant c.loop-sp-test.true c.fill_step.ensures c.in-Passed.is (search rules) (search rules)

pub shape_of-out : goal.shape_of-out
shape_of-out c = listing_length c.loop-sp.invariant

pub returns : goal.returns
returns c = listing_end c.loop-sp.invariant (omega arith)
