-- One step in a number's direction. Assumes nothing.
use Prim.Native.Nat.{ℕ, zero, suc, ◌≤◌, ◌<◌}
use native.Mathlib.Nat.{mul-one}
use native.Mathlib.Omega.{arith}
use borrow.Author.Tests.{ltb-true}
use mathlib.Core.Path.{◌≡◌, refl, ap}
use mathlib.Core.Bool.{true, false, true≢false}
use lib.Dec.{lit≤}
use lib.IntN.{ℤ, pos, negsuc, neg_ℤ, nat_abs, ◌*ℤ◌}
use lib.Signed.{lt_z}
use Rattle.scans.specs.Scan.{way_of}
use Rattle.scans.specs.Walk.{sign_of}

pub way_below : (z : ℤ) → lt_z z (pos 0) ≡ true → negsuc 0 ≡ way_of z
unfolding way_of
way_below (pos n) h = let k = ltb-true n 0 h in let z : ⊥ = omega arith in absurd z
way_below (negsuc n) h = refl

pub way_from : (z : ℤ) → lt_z z (pos 0) ≡ false → pos 1 ≡ way_of z
unfolding way_of
way_from (pos n) h = refl
way_from (negsuc n) h = absurd (true≢false h)

pub way_low : (z : ℤ) → nat_abs (way_of z) ≤ 1
unfolding way_of
way_low (pos n) = lit≤ tt
way_low (negsuc n) = lit≤ tt

-- as many such steps as the number is large are the number
pub way_whole : (z : ℤ) → pos (nat_abs z) *ℤ way_of z ≡ z
unfolding way_of
way_whole (pos n) = ap pos (mul-one n)
way_whole (negsuc n) = ap (λ (k : ℕ). neg_ℤ (pos k)) (mul-one (suc n))

-- and the direction of a number that is not 0 is its sign
pub way_sign : (z : ℤ) → 0 < nat_abs z → way_of z ≡ sign_of z
unfolding way_of
way_sign (pos zero) h = let k : ⊥ = omega arith in absurd k
way_sign (pos (suc n)) h = refl
way_sign (negsuc n) h = refl
