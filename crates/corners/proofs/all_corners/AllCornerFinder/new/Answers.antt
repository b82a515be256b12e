-- `new` starts with `initial` in all four directions, scored as the other points are. Assumes nothing.
use Rattle.corners.specs.Scores.{Direction, along_of, across_of, behind_of, left_of}
use Rattle.corners.specs.Finders.{all_corners_from}
use Rattle.corners.proofs.Signed.{Is, is_fits, is_back, is_opposite}
use Rattle.corners.proofs.Small.{is_along, is_across, within_near, way_direction}
use Rattle.corners.proofs.all_corners.AllCornerFinder.new.Goals as goal

pub line_from-line-requires : goal.line_from-line-requires
line_from-line-requires c = record { fact_1 = within_near c.requires.fact_1; fact_2 = within_near c.requires.fact_2 }

pub along-par-requires : goal.along-par-requires
along-par-requires c =
    let direction : Direction c.line_from-line.result = rw c.line_from-line.ensures (way_direction (within_near c.requires.fact_1) (within_near c.requires.fact_2)) in
    record { fact_1 = direction; fact_2 = c.requires.fact_1 }

pub across-ort-requires : goal.across-ort-requires
across-ort-requires c =
    let direction : Direction c.line_from-line.result = rw c.line_from-line.ensures (way_direction (within_near c.requires.fact_1) (within_near c.requires.fact_2)) in
    record { fact_1 = direction; fact_2 = c.requires.fact_1 }

pub overflow_sub-result : goal.overflow_sub-result
overflow_sub-result c =
    let direction : Direction c.line_from-line.result = rw c.line_from-line.ensures (way_direction (within_near c.requires.fact_1) (within_near c.requires.fact_2)) in
    let par : Is c.along-par.result (along_of c.line_from-line.result c.args.initial) 31960000 = is_along (direction) c.requires.fact_1 c.along-par.ensures in
    is_fits (is_opposite (par))

pub overflow_sub-result-2 : goal.overflow_sub-result-2
overflow_sub-result-2 c =
    let direction : Direction c.line_from-line.result = rw c.line_from-line.ensures (way_direction (within_near c.requires.fact_1) (within_near c.requires.fact_2)) in
    let ort : Is c.across-ort.result (across_of c.line_from-line.result c.args.initial) 31960000 = is_across (direction) c.requires.fact_1 c.across-ort.ensures in
    is_fits (is_opposite (ort))

pub returns : goal.returns
unfolding all_corners_from behind_of left_of
returns c =
    let direction : Direction c.line_from-line.result = rw c.line_from-line.ensures (way_direction (within_near c.requires.fact_1) (within_near c.requires.fact_2)) in
    let par : Is c.along-par.result (along_of c.line_from-line.result c.args.initial) 31960000 = is_along (direction) c.requires.fact_1 c.along-par.ensures in
    let ort : Is c.across-ort.result (across_of c.line_from-line.result c.args.initial) 31960000 = is_across (direction) c.requires.fact_1 c.across-ort.ensures in
    rw (is_back (is_opposite (par)), is_back (is_opposite (ort)), is_back (par), is_back (ort)) (rw c.line_from-line.ensures)
