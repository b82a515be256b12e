-- How far out a point lies. Assumes nothing.
use Rattle.std.specs.Prelude.{ℕ, ◌≤◌, ◌<◌, ◌≡◌, ℤ, pos, nat_abs}
use Rattle.refusals.specs.Limits.{longest_side, farthest}
use Rattle.points.specs.declared.Point.{Point}

-- z is a coordinate of some picture's pixel
pub record Inside (z : ℤ) : Type 0 where
  pub n : ℕ
  pub is : z ≡ pos n
  pub low : n < longest_side

-- p is a pixel of some picture
pub record Within (p : Point) : Type 0 where
  pub x : Inside p.x
  pub y : Inside p.y

-- p is no further out than document 01 lets a stated point be (refusal 12)
pub record Near (p : Point) : Type 0 where
  pub x_low : nat_abs p.x ≤ farthest
  pub y_low : nat_abs p.y ≤ farthest
