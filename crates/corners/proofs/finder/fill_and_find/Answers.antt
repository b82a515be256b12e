-- `fill_and_find` paints its piece and shows the finder each row: each need is a law of Looking. Assumes nothing.
use native.Mathlib.Omega.{arith}
use borrow.Author.Rules.{rules}
use Rattle.fill.proofs.Filling.{room_some}
use Rattle.corners.specs.Rows.{by_ends}
use Rattle.corners.proofs.Looking.{looking-begun, looking_asks, looking_row, looking_met, looking_met_less, looking_passed, looking_passed_less, looking_end}
use Rattle.corners.proofs.finder.fill_and_find.Goals as goal

pub seed-from-requires : goal.seed-from-requires
seed-from-requires g c = (c.requires.fact_1.sized, c.requires.fact_1.in_x, c.requires.fact_1.in_y, room_some c.requires.fact_1)

pub loop-sp-init : goal.loop-sp-init
loop-sp-init g c =
    looking-begun (by_ends g.F.Finder.sees) c.requires.fact_1 c.requires.fact_2 c.requires.fact_3 c.seed-from.ensures.0 (search rules) c.seed-from.ensures.1

pub fill_step-requires : goal.fill_step-requires
fill_step-requires g c = looking_asks c.loop-sp.invariant c.loop-sp-test.true

pub update-found-requires-clause-fact_2 : goal.update-found-requires-clause-fact_2
update-found-requires-clause-fact_2 g c =
    looking_row c.loop-sp.invariant c.loop-sp-test.true c.fill_step.ensures c.in-Met.is (search rules) (search rules)

pub loop-sp-smaller-in-Met : goal.loop-sp-smaller-in-Met
loop-sp-smaller-in-Met g c =
    looking_met_less c.loop-sp.invariant c.loop-sp-test.true c.fill_step.ensures c.in-Met.is

pub loop-sp-preserved-in-Met : goal.loop-sp-preserved-in-Met
unfolding by_ends
loop-sp-preserved-in-Met g c =
    let stays = g.met.F.Finder.stays_ready in
    looking_met c.loop-sp.invariant c.loop-sp-test.true c.fill_step.ensures c.in-Met.is (λ f row ready. stays _ _ (stays _ _ ready)) (search rules) (search rules) c.update-found.ensures

pub loop-sp-smaller : goal.loop-sp-smaller
loop-sp-smaller g c =
    looking_passed_less c.loop-sp.invariant c.loop-sp-test.true c.fill_step.ensures c.in-Passed.is

pub loop-sp-preserved : goal.loop-sp-preserved
loop-sp-preserved g c =
    looking_passed c.loop-sp.invariant c.loop-sp-test.true c.fill_step.ensures c.in-Passed.is (search rules) (search rules)

pub returns : goal.returns
returns g c = looking_end c.loop-sp.invariant (omega arith)
