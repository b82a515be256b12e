-- What each finder has found, once it has met some rows: of their ends, the first of those that lie farthest. Assumes nothing.
use Prim.Native.Nat.{ℕ, ◌+◌, ◌*◌}
use mathlib.Core.Path.{◌≡◌, refl, sym, ap, ◌∙◌, subst}
use mathlib.Core.List.{List, [], ◌∷◌, ◌++◌}
use lib.IntN.{ℤ, pos, negsuc, nat_abs, ◌+ℤ◌, ◌-ℤ◌, ◌*ℤ◌}
use Rattle.points.specs.declared.Point.{Point}
use Rattle.corners.specs.Scores.{distance_of, along_of, across_of, behind_of, left_of, line_from}
use Rattle.corners.specs.Best.{raised, scored}
use Rattle.pieces.specs.declared.Row.{Row}
use Rattle.fill.specs.Fold.{folded}
use Rattle.corners.specs.Rows.{left_end, right_end, by_ends, seen_in, ends}
use Rattle.corners.specs.First.{First, FourWays}
use Rattle.corners.specs.Finders.{first_corner_from, first_corner_sees, all_corners_from, all_corners_see, left_most_from, left_most_sees}
use Rattle.corners.specs.declared.places.Best.{Best}
use Rattle.corners.specs.declared.first_corner.FirstCornerFinder.{FirstCornerFinder}
use Rattle.corners.specs.declared.all_corners.AllCornerFinder.{AllCornerFinder}
use Rattle.corners.specs.declared.left_most.LeftMostFinder.{LeftMostFinder}
use Rattle.corners.proofs.Order.{square}
use Rattle.corners.proofs.Ends.{rows_seen}
use Rattle.corners.proofs.Extremes.{tried, seen_first}

-- a finder keeps what it measures from, and each of its points is tried by itself
first_corner_tries : (f : FirstCornerFinder) (ps : List Point) → (seen_in first_corner_sees f ps).best ≡ seen_in (tried (distance_of f.initial)) f.best ps
unfolding seen_in first_corner_sees
first_corner_tries f [] = refl
first_corner_tries f (p ∷ ps) = first_corner_tries (first_corner_sees f p) ps

all-corners-try :
    (f : AllCornerFinder) (ps : List Point)
    → seen_in all_corners_see f ps
    ≡ record {
      baseline = f.baseline;
      ahead = seen_in (tried (along_of f.baseline)) f.ahead ps;
      right = seen_in (tried (across_of f.baseline)) f.right ps;
      behind = seen_in (tried (behind_of f.baseline)) f.behind ps;
      left = seen_in (tried (left_of f.baseline)) f.left ps;
    }
unfolding seen_in all_corners_see
all-corners-try f [] = refl
all-corners-try f (p ∷ ps) = all-corners-try (all_corners_see f p) ps

left_most_tries : (f : LeftMostFinder) (ps : List Point) → (seen_in left_most_sees f ps).best ≡ seen_in (tried (left_of f.line)) f.best ps
unfolding seen_in left_most_sees
left_most_tries f [] = refl
left_most_tries f (p ∷ ps) = left_most_tries (left_most_sees f p) ps

-- no distance is negative, so the first point beats the score that the first corner starts with
beaten : (b p : Point) (z : ℤ) (n : ℕ) → z ≡ pos n → raised (record { place = b; score = negsuc 0 }) p z ≡ record { place = p; score = z }
unfolding raised
beaten b p z n e = rw e

first_tried : (initial p : Point) → tried (distance_of initial) (first_corner_from initial).best p ≡ scored (distance_of initial) p
unfolding first_corner_from distance_of
first_tried initial p =
    let dx = p.x -ℤ initial.x in
    let dy = p.y -ℤ initial.y in
    beaten _ p (dx *ℤ dx +ℤ dy *ℤ dy) (nat_abs dx * nat_abs dx + nat_abs dy * nat_abs dy) (rw (square dx, square dy))

first_corner_is : (initial p : Point) (ps : List Point) → First (p ∷ ps) (distance_of initial) (seen_in first_corner_sees (first_corner_from initial) (p ∷ ps)).best.place
unfolding seen_in first_corner_from
first_corner_is initial p ps =
    let all = first_corner_tries (first_corner_from initial) (p ∷ ps) in
    let one = ap (λ (b : Best). seen_in (tried (distance_of initial)) b ps) (first_tried initial p) in
    subst (λ (b : Best). First (p ∷ ps) (distance_of initial) b.place) (sym (all ∙ one)) (seen_first (distance_of initial) p ps).first

all_corners_are : (initial corner : Point) (ps : List Point) → FourWays (First (initial ∷ ps)) (line_from initial corner) (seen_in all_corners_see (all_corners_from initial corner) ps)
unfolding all_corners_from
all_corners_are initial corner ps =
    let line = line_from initial corner in
    rw (all-corners-try (all_corners_from initial corner) ps)
    (record {
      ahead = (seen_first (along_of line) initial ps).first;
      right = (seen_first (across_of line) initial ps).first;
      behind = (seen_first (behind_of line) initial ps).first;
      left = (seen_first (left_of line) initial ps).first;
    })

left_most_is : (line start : Point) (ps : List Point) → First (start ∷ ps) (left_of line) (seen_in left_most_sees (left_most_from line start) ps).best.place
unfolding left_most_from
left_most_is line start ps = rw (left_most_tries (left_most_from line start) ps) (seen_first (left_of line) start ps).first

-- where there is a row there is an end
some_end : (row : Row) (rows : List Row) → (p : Point) × (ps : List Point) × (ends (row ∷ rows) ≡ p ∷ ps)
unfolding ends
some_end row rows = go (ends rows)
  where
    go : (qs : List Point) → (p : Point) × (ps : List Point) × (qs ++ (left_end row ∷ right_end row ∷ []) ≡ p ∷ ps)
    go [] = (left_end row, right_end row ∷ [], refl)
    go (q ∷ qs) = (q, qs ++ (left_end row ∷ right_end row ∷ []), refl)

-- the first corner is the first of the ends farthest from `initial`
pub first_corner_found : (initial : Point) (row : Row) (rows : List Row) → First (ends (row ∷ rows)) (distance_of initial) (folded (by_ends first_corner_sees) (first_corner_from initial) (row ∷ rows)).best.place
first_corner_found initial row rows =
    let some = some_end row rows in
    rw (rows_seen first_corner_sees (first_corner_from initial) (row ∷ rows), some.2) (first_corner_is initial some.0 some.1)

-- the four corners are the first of the ends farthest in the four directions of the line from `initial` to a corner
pub all_corners_found : (initial corner : Point) (rows : List Row) → FourWays (First (initial ∷ ends rows)) (line_from initial corner) (folded (by_ends all_corners_see) (all_corners_from initial corner) rows)
all_corners_found initial corner rows = rw (rows_seen all_corners_see (all_corners_from initial corner) rows) (all_corners_are initial corner (ends rows))

-- the leftmost is the first of the ends farthest to the left of the line
pub left_most_found : (line start : Point) (rows : List Row) → First (start ∷ ends rows) (left_of line) (folded (by_ends left_most_sees) (left_most_from line start) rows).best.place
left_most_found line start rows = rw (rows_seen left_most_sees (left_most_from line start) rows) (left_most_is line start (ends rows))
