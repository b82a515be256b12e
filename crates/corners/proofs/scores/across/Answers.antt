-- `across` computes how far a point lies to the right of a direction: no step of it leaves the range of an i32. Assumes nothing.
use borrow.Author.Rules.{rules}
use lib.Dec.{lit<}
use Rattle.corners.specs.Scores.{across_of}
use Rattle.corners.proofs.Signed.{is_sub, is_back}
use Rattle.corners.proofs.Small.{is_scaled, scaled_fits, difference_fits}
use Rattle.corners.proofs.scores.across.Goals as goal

pub overflow_mul-result : goal.overflow_mul-result
overflow_mul-result c = search (rules, scaled_fits)

pub overflow_mul-result-2 : goal.overflow_mul-result-2
overflow_mul-result-2 c = search (rules, scaled_fits)

pub overflow_sub-result : goal.overflow_sub-result
overflow_sub-result c = search (rules, difference_fits)

pub returns : goal.returns
unfolding across_of
returns c =
    is_back (is_sub (is_scaled c.requires.fact_2.y c.requires.fact_1.x) (is_scaled c.requires.fact_2.x c.requires.fact_1.y) (lit< tt))
