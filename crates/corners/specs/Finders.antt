-- What each finder of corners knows, and what a point that it sees adds. The rules are taken from the Rust. Assumes nothing.
use Rattle.std.specs.Prelude.{pos, negsuc}
use Rattle.points.specs.Range.{Within}
use Rattle.points.specs.declared.Point.{Point}
use Rattle.corners.specs.Scores.{Direction, distance_of, along_of, across_of, behind_of, left_of, line_from}
use Rattle.corners.specs.Best.{raised, scored}
use Rattle.corners.specs.declared.first_corner.FirstCornerFinder.{FirstCornerFinder}
use Rattle.corners.specs.declared.all_corners.AllCornerFinder.{AllCornerFinder}
use Rattle.corners.specs.declared.left_most.LeftMostFinder.{LeftMostFinder}

-- the first corner is the point farthest from `initial`: at first none, with a score that every point beats
unfoldable pub first_corner_from : Point → FirstCornerFinder
first_corner_from initial = record { initial = initial; best = record { place = record { x = pos 0; y = pos 0 }; score = negsuc 0 } }

unfoldable pub first_corner_sees : FirstCornerFinder → Point → FirstCornerFinder
first_corner_sees f p = record { initial = f.initial; best = raised f.best p (distance_of f.initial p) }

-- the four corners are the points farthest in the four directions of the line from `initial` to the first corner: at first all are `initial`
unfoldable pub all_corners_from : Point → Point → AllCornerFinder
all_corners_from initial corner =
    let baseline = line_from initial corner in
    record {
      baseline = baseline;
      ahead = scored (along_of baseline) initial;
      right = scored (across_of baseline) initial;
      behind = scored (behind_of baseline) initial;
      left = scored (left_of baseline) initial;
    }

unfoldable pub all_corners_see : AllCornerFinder → Point → AllCornerFinder
all_corners_see f p =
    record {
      baseline = f.baseline;
      ahead = raised f.ahead p (along_of f.baseline p);
      right = raised f.right p (across_of f.baseline p);
      behind = raised f.behind p (behind_of f.baseline p);
      left = raised f.left p (left_of f.baseline p);
    }

-- the leftmost is the point farthest to the left of `line`: at first `start`
unfoldable pub left_most_from : Point → Point → LeftMostFinder
left_most_from line start = record { line = line; best = scored (left_of line) start }

unfoldable pub left_most_sees : LeftMostFinder → Point → LeftMostFinder
left_most_sees f p = record { line = f.line; best = raised f.best p (left_of f.line p) }

-- what each measures from stays as it is, so it may be shown the next point too
pub first_corner_stays : (f : FirstCornerFinder) (p : Point) → Within f.initial → Within (first_corner_sees f p).initial
unfolding first_corner_sees
first_corner_stays f p ready = ready

pub all_corners_stay : (f : AllCornerFinder) (p : Point) → Direction f.baseline → Direction (all_corners_see f p).baseline
unfolding all_corners_see
all_corners_stay f p ready = ready

pub left_most_stays : (f : LeftMostFinder) (p : Point) → Direction f.line → Direction (left_most_sees f p).line
unfolding left_most_sees
left_most_stays f p ready = ready
