-- `left_of` computes the opposite of `across`, which is small enough. Assumes nothing.
use Rattle.corners.specs.Scores.{across_of, left_of}
use Rattle.corners.proofs.Signed.{Is, is_fits, is_back, is_opposite}
use Rattle.corners.proofs.Small.{is_across}
use Rattle.corners.proofs.scores.left_of.Goals as goal

pub overflow_sub-result : goal.overflow_sub-result
overflow_sub-result c =
    let is : Is c.across.result (across_of c.args.d c.args.p) 31960000 = is_across c.requires.fact_1 c.requires.fact_2 c.across.ensures in
    is_fits (is_opposite (is))

pub returns : goal.returns
unfolding left_of
returns c =
    let is : Is c.across.result (across_of c.args.d c.args.p) 31960000 = is_across c.requires.fact_1 c.requires.fact_2 c.across.ensures in
    is_back (is_opposite (is))
