-- What may be given up: a score of which a part is known, and of which the rest can't lift it over the best so far. Assumes nothing.
use Prim.Native.Nat.{ℕ}
use mathlib.Core.Path.{◌≡◌, refl, sym}
use mathlib.Core.Bool.{Bool, true, false, cond, true≢false}
use lib.IntN.{ℤ, ◌+ℤ◌}
use lib.Signed.{lt_z}
use Rattle.refusals.specs.Finding.{Finding, found, refused}
use Rattle.cell_fitness.specs.Score.{◌⊞◌}
use Rattle.beyond.specs.Capped.{capped, outdone}
use Rattle.beyond.proofs.Reach.{Reach}
use Rattle.beyond.proofs.Order.{no_higher, not_above}

-- a whole, of which something was seen and the rest comes to no more than a bound
pub record Standing (whole seen : Finding ℤ) (rest : ℕ) : Type 0 where
  pub left : Finding ℤ
  pub is : whole ≡ seen ⊞ left
  pub few : Reach rest left

-- the best is worth itself
best_itself : (t : Bool) (best : ℤ) → cond t best best ≡ best
best_itself true best = refl
best_itself false best = refl

-- a score that does not exceed the best counts as the best
capped_low : (best : ℤ) (f left : Finding ℤ) (rest : ℕ) → Reach rest left → outdone best rest f ≡ true → capped best (found best) ≡ capped best (f ⊞ left)
unfolding capped outdone ◌⊞◌
capped_low best (found z) left rest few h =
    rw (few.is, best_itself (lt_z best best) best, not_above (z +ℤ few.score) best (no_higher best z few.score rest few.small h))
capped_low best (refused n) left rest few h = absurd (true≢false (sym h))

-- what a test finds outdone can be given up
pub given_up_lem : (best : ℤ) {whole seen : Finding ℤ} {rest : ℕ} → Standing whole seen rest → (f : Finding ℤ) (k : ℕ) (t : Bool) → f ≡ seen → k ≡ rest → t ≡ outdone best k f → t ≡ true → capped best (found best) ≡ capped best whole
given_up_lem best {seen} {rest} s f k t e r o h =
    let low : outdone best rest seen ≡ true = rw (← e, ← r, ← o) h in
    rw s.is (capped_low best seen s.left rest s.few low)
