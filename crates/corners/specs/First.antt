-- What a finder looks for. Definitions alone.
use Rattle.std.specs.Prelude.{ℕ, ◌≡◌, List, ◌∷◌, ◌++◌, ℤ, ◌<ℤ◌, ◌≤ℤ◌}
use Rattle.points.specs.declared.Point.{Point}
use Rattle.pieces.specs.Count.{Mem}
use Rattle.corners.specs.Rows.{point_at}
use Rattle.corners.specs.Scores.{along_of, across_of, behind_of, left_of}
use Rattle.corners.specs.declared.all_corners.AllCornerFinder.{AllCornerFinder}

-- among the points seen: p is the first of those that have the highest score
pub record First (points : List Point) (score : Point → ℤ) (p : Point) : Type 0 where
  pub before : List Point
  pub after : List Point
  pub are : points ≡ before ++ (p ∷ after)
  pub lower : (q : Point) → Mem q before → score q <ℤ score p
  pub no_higher : (q : Point) → Mem q after → score q ≤ℤ score p

-- in a set of pixels: p is one of them, and none has a higher score
pub record Highest (S : ℕ → ℕ → Type 0) (score : Point → ℤ) (p : Point) : Type 0 where
  pub column : ℕ
  pub line : ℕ
  pub is : p ≡ point_at column line
  pub inside : S column line
  pub no_higher : (a b : ℕ) → S a b → score (point_at a b) ≤ℤ score p

-- P holds of the four corners found, each by how far it lies in its direction of the line
pub record FourWays (P : (Point → ℤ) → Point → Type 0) (line : Point) (f : AllCornerFinder) : Type 0 where
  pub ahead : P (along_of line) f.ahead.place
  pub right : P (across_of line) f.right.place
  pub behind : P (behind_of line) f.behind.place
  pub left : P (left_of line) f.left.place
