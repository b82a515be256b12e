-- A leg has as many passes as its length says, all in its direction, and then comes the next leg: the passes are the Rust's two nested loops. Assumes nothing.
use Prim.Native.Nat.{ℕ, zero, suc, ◌+◌, ◌-◌, ◌%◌, ◌<◌}
use native.Mathlib.Omega.{arith}
use mathlib.Core.Path.{◌≡◌, ap, ◌∙◌}
use borrow.Author.Tests.{lt-ltb}
use Rattle.alignment.specs.Spiral.{leg_of, turned_to, next_pass}
use Rattle.alignment.specs.declared.spiral.Pass.{Pass}

-- k passes on
pub passes_on : ℕ → Pass → Pass
passes_on zero s = s
passes_on (suc k) s = next_pass (passes_on k s)

module _ (dir step : ℕ) where
  pub leg_goes_on : (k : ℕ) → k < step → passes_on k (leg_of dir step) ≡ record { dir = dir; step = step; left = step - k }
  unfolding passes_on next_pass
  leg_goes_on zero low = let all : step - 0 ≡ step = omega arith in rw all
  leg_goes_on (suc k) low =
      let more : 1 < step - k = omega arith in
      let one : step - k - 1 ≡ step - suc k = omega arith in
      ap next_pass (leg_goes_on k (omega arith)) ∙ rw (lt-ltb 1 (step - k) more, one)

  pub leg_ends : (k : ℕ) → step ≡ suc k → passes_on step (leg_of dir step) ≡ turned_to ((dir + 1) % 4) step
  unfolding passes_on next_pass
  leg_ends k e =
      let last : step - k ≡ 1 = omega arith in
      ap (λ n. passes_on n (leg_of dir step)) e ∙ ap next_pass (leg_goes_on k (omega arith)) ∙ rw last
