-- The passes of the spiral. Taken from the Rust (`find_alignment_pattern`), which tests a leg's length as the leg starts: it stays the same along the leg, so it is stated of each pass. Definitions alone.
use Rattle.std.specs.Prelude.{ℕ, ◌+◌, ◌-◌, ◌*◌, ◌%◌, ◌<◌, ◌≤◌, cond, eqb, ltb, ℤ, pos, negsuc, nat_abs, ◌+ℤ◌}
use Rattle.points.specs.declared.Point.{Point}
use Rattle.alignment.specs.declared.spiral.Pass.{Pass}

-- the first pass of a leg of `step` passes
abbrev pub leg_of : ℕ → ℕ → Pass
leg_of dir step = record { dir = dir; step = step; left = step }

-- the spiral starts with a leg of one, to the right
abbrev pub first_pass : Pass
first_pass = leg_of 0 1

-- a leg in the direction `dir`, after one of `step` passes: every second leg is one longer
unfoldable pub turned_to : ℕ → ℕ → Pass
turned_to dir step = cond (eqb (dir % 2) 0) (leg_of dir (step + 1)) (leg_of dir step)

-- the pass after a pass: the leg's next, or the first of the leg in the next direction
unfoldable pub next_pass : Pass → Pass
next_pass s = cond (ltb 1 s.left) (record { dir = s.dir; step = s.step; left = s.left - 1 }) (turned_to ((s.dir + 1) % 4) s.step)

-- the directions: 0 leads to the right, 1 up, 2 to the left, 3 down
unfoldable pub way_x : ℕ → ℤ
way_x dir = cond (eqb dir 0) (pos 1) (cond (eqb dir 2) (negsuc 0) (pos 0))

unfoldable pub way_y : ℕ → ℤ
way_y dir = cond (eqb dir 1) (negsuc 0) (cond (eqb dir 3) (pos 1) (pos 0))

-- the place that a pass leads to
unfoldable pub moved : Pass → Point → Point
moved s at = record { x = at.x +ℤ way_x s.dir; y = at.y +ℤ way_y s.dir }

-- a pass as the spiral comes to it
pub record Turning (s : Pass) : Type 0 where
  pub dir_low : s.dir < 4
  pub some : 0 < s.left
  pub left_low : s.left ≤ s.step
  pub step_low : s.step ≤ 1000

-- no leg is longer than 1001 passes, and only so many legs are left
unfoldable pub legs_left : Pass → ℕ
legs_left s = (1001 - s.step) * 2 + (1 - s.dir % 2)

-- at least as many as the passes that are left
unfoldable pub passes_left : Pass → ℕ
passes_left s = legs_left s * 1001 + s.left

-- a place is as near as the passes still to be made allow
pub record Reachable (s : Pass) (at : Point) : Type 0 where
  pub x_low : nat_abs at.x + passes_left s ≤ 3000000
  pub y_low : nat_abs at.y + passes_left s ≤ 3000000
