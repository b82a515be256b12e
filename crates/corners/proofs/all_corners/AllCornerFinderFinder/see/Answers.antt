-- A point that the four corners' finder sees is scored in each direction. Assumes nothing.
use Rattle.corners.specs.Scores.{along_of, across_of, behind_of, left_of}
use Rattle.corners.specs.Finders.{all_corners_see}
use Rattle.corners.proofs.Signed.{Is, is_fits, is_back, is_opposite}
use Rattle.corners.proofs.Small.{is_along, is_across}
use Rattle.corners.proofs.all_corners.AllCornerFinderFinder.see.Goals as goal

pub overflow_sub-par : goal.overflow_sub-par
overflow_sub-par c =
    let par : Is c.along-par.result (along_of c.args.self.baseline c.args.p) 31960000 = is_along c.requires.fact_1 c.requires.fact_2 c.along-par.ensures in
    is_fits (is_opposite (par))

pub overflow_sub-ort : goal.overflow_sub-ort
overflow_sub-ort c =
    let ort : Is c.across-ort.result (across_of c.args.self.baseline c.args.p) 31960000 = is_across c.requires.fact_1 c.requires.fact_2 c.across-ort.ensures in
    is_fits (is_opposite (ort))

pub returns : goal.returns
unfolding all_corners_see behind_of left_of
returns c =
    let par : Is c.along-par.result (along_of c.args.self.baseline c.args.p) 31960000 = is_along c.requires.fact_1 c.requires.fact_2 c.along-par.ensures in
    let ort : Is c.across-ort.result (across_of c.args.self.baseline c.args.p) 31960000 = is_across c.requires.fact_1 c.requires.fact_2 c.across-ort.ensures in
    rw (c.raised.ensures, c.raised-2.ensures, c.raised-3.ensures, c.raised-4.ensures)
    (rw (is_back (is_opposite (par)), is_back (is_opposite (ort)), is_back (par), is_back (ort)))
