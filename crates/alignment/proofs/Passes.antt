-- The passes of the spiral stay in range: each leads one place on at most, and there are fewer and fewer left. Assumes nothing.
use Prim.Native.Nat.{ℕ, ◌+◌, ◌-◌, ◌*◌, ◌%◌, ◌≤◌, ◌<◌}
use native.Mathlib.Nat.{mul-le-mul}
use native.Mathlib.Decide.{ℕ_discrete, dec_lt}
use native.Mathlib.Omega.{arith}
use mathlib.Core.Path.{◌≡◌}
use mathlib.Core.Bool.{Bool, true, false, cond}
use mathlib.Core.Logic.{by_cases}
use lib.Dec.{eqb}
use lib.IntN.{ℤ, pos, negsuc, nat_abs}
use borrow.Author.Tests.{eq-eqb, ne_eqb, lt-ltb, le-ltb}
use Rattle.points.specs.Range.{Near}
use Rattle.points.specs.declared.Point.{Point}
use Rattle.sizes.proofs.Size.{size_add}
use Rattle.alignment.specs.Spiral.{first_pass, turned_to, next_pass, way_x, way_y, moved, Turning, legs_left, passes_left, Reachable}
use Rattle.alignment.specs.declared.spiral.Pass.{Pass}

one_most : (s t : Bool) (a b : ℤ) → nat_abs a ≤ 1 → nat_abs b ≤ 1 → nat_abs (cond s a (cond t b (pos 0))) ≤ 1
one_most true t a b i j = i
one_most false true a b i j = j
one_most false false a b i j = omega arith

pub way_x_one : (dir : ℕ) → nat_abs (way_x dir) ≤ 1
unfolding way_x
way_x_one dir = one_most (eqb dir 0) (eqb dir 2) (pos 1) (negsuc 0) (omega arith) (omega arith)

pub way_y_one : (dir : ℕ) → nat_abs (way_y dir) ≤ 1
unfolding way_y
way_y_one dir = one_most (eqb dir 1) (eqb dir 3) (negsuc 0) (pos 1) (omega arith) (omega arith)

-- t is a pass as the spiral comes to it, with fewer left than after s
pub record After (s t : Pass) : Type 0 where
  pub turning : Turning t
  pub less : passes_left t < passes_left s

module _ {s : Pass} (S : Turning s) (low : s.step ≤ 999) where
  along : 1 < s.left → After s (record { dir = s.dir; step = s.step; left = s.left - 1 })
  unfolding passes_left legs_left
  along more = record { turning = record { dir_low = S.dir_low; some = omega arith; left_low = omega (arith, S.left_low); step_low = S.step_low }; less = omega arith }

  turned_after : (dir : ℕ) → dir < 4 → dir % 2 + s.dir % 2 ≡ 1 → After s (turned_to dir s.step)
  unfolding turned_to passes_left legs_left
  turned_after dir few other =
      by_cases (ℕ_discrete (dir % 2) 0)
      (λ e.
      rw (eq-eqb (dir % 2) 0 e)
      (record { turning = record { dir_low = few; some = omega arith; left_low = omega arith; step_low = omega arith }; less = omega arith }))
      (λ n.
      rw (ne_eqb (dir % 2) 0 n)
      (record { turning = record { dir_low = few; some = omega (arith, S.some, S.left_low); left_low = omega arith; step_low = S.step_low }; less = omega arith }))

  pub next_after : After s (next_pass s)
  unfolding next_pass
  next_after =
      by_cases (dec_lt 1 s.left)
      (λ l. rw (lt-ltb 1 s.left l) (along l))
      (λ m. rw (le-ltb 1 s.left (omega arith)) (turned_after ((s.dir + 1) % 4) (omega arith) (omega (arith, S.dir_low))))

-- a leg that is not too long for an estimate of 10,000 at most is shorter than 1000
pub step_few : (step estimate : ℕ) → step * step < estimate * 100 → estimate ≤ 10000 → step ≤ 999
step_few step estimate l few = by_cases (dec_lt step 1000) (λ h. omega arith) (λ m. let far : 1000 ≤ step = omega arith in absurd (omega (arith, mul-le-mul far far)))

pub first_turning : Turning first_pass
first_turning = record { dir_low = omega arith; some = omega arith; left_low = omega arith; step_low = omega arith }

pub first_near : {seed : Point} → Near seed → Reachable first_pass seed
unfolding passes_left legs_left
first_near N = record { x_low = omega (arith, N.x_low); y_low = omega (arith, N.y_low) }

module _ {s t : Pass} (less : passes_left t < passes_left s) {at : Point} (R : Reachable s at) where
  pub still_near : Reachable t at
  still_near = record { x_low = omega (arith, R.x_low); y_low = omega (arith, R.y_low) }

  pub moved_near : Reachable t (moved s at)
  unfolding moved
  moved_near =
      record {
        x_low = omega (arith, R.x_low, size_add at.x (way_x s.dir), way_x_one s.dir);
        y_low = omega (arith, R.y_low, size_add at.y (way_y s.dir), way_y_one s.dir);
      }
