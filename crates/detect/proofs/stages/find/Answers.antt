-- `find` searches the marks from the empty table, and gathers. Assumes nothing.
use native.Mathlib.Omega.{arith}
use Rattle.found_stones.proofs.Keeps.{search_keeps}
use Rattle.detect.proofs.Ready.{array_stones}
use Rattle.detect.proofs.Staged.{then_workable}
use Rattle.detect.proofs.stages.find.Goals as goal

pub capstones_from_image-marks-requires : goal.capstones_from_image-marks-requires
capstones_from_image-marks-requires c = rw c.empty.ensures c.requires.0

pub gather-requires : goal.gather-requires
gather-requires c =
    let S = rw c.empty.ensures at c.capstones_from_image-marks.ensures.0 in
    (then_workable c.requires.0.roomy (search_keeps c.requires.0 S) (omega (arith, c.capstones_from_image-marks.auto.stack)), c.requires.1, c.capstones_from_image-marks.ensures.1, array_stones c.requires.0 c.capstones_from_image-marks.result c.capstones_from_image-marks.ensures.1 S)

pub returns : goal.returns
returns c =
    let S = rw c.empty.ensures at c.capstones_from_image-marks.ensures.0 in
    (record { stones = _; marked = _; among = _; searches = S; gathers = c.gather.ensures.0 }, c.gather.ensures.1)
