-- A sum that does not exceed a number does not exceed it either where one of its summands is lower. Assumes nothing.
use Prim.Native.Nat.{ℕ, zero, suc, ◌+◌, ◌-◌, ◌≤◌}
use native.Mathlib.Omega.{arith}
use borrow.Author.Tests.{leb-true, le-leb, le-ltb}
use mathlib.Core.Path.{◌≡◌, refl, sym, ap, ◌∙◌}
use mathlib.Core.Bool.{true, false, true≢false}
use lib.IntN.{ℤ, pos, negsuc, nat_abs, suc_ℤ, ◌+ℤ◌, +ℤ_idr, +ℤ-suc_ℤ, +ℤ_assoc, +ℤ_comm, +ℤ-neg_ℤ_cancel}
use lib.Signed.{lt_z, le_z}

-- one less is no higher either
one_less : (z best : ℤ) → le_z (suc_ℤ z) best ≡ true → le_z z best ≡ true
one_less (pos a) (pos b) h = let k = leb-true (suc a) b h in le-leb a b (omega arith)
one_less (pos a) (negsuc b) h = h
one_less (negsuc a) (pos b) h = refl
one_less (negsuc zero) (negsuc b) h = absurd (true≢false (sym h))
one_less (negsuc (suc a)) (negsuc b) h = let k = leb-true b a h in le-leb b (suc a) (omega arith)

-- nor is k less
less : (z best : ℤ) (k : ℕ) → le_z (z +ℤ pos k) best ≡ true → le_z z best ≡ true
less z best zero h = rw (+ℤ_idr z) at h
less z best (suc k) h = less z best k (one_less (z +ℤ pos k) best (rw (+ℤ-suc_ℤ z (pos k)) at h))

-- a number that is no further from 0 than a bound lies below the bound by so much
gap : (t : ℤ) → ℕ → ℕ
gap (pos n) rest = rest - n
gap (negsuc n) rest = rest + suc n

-- and with so much more it is the bound
up_to : (t : ℤ) (rest : ℕ) → nat_abs t ≤ rest → pos rest ≡ t +ℤ pos (gap t rest)
unfolding gap
up_to (pos n) rest h = ap pos (omega arith)
up_to (negsuc n) rest h = sym (+ℤ_comm (negsuc n) (pos (rest + suc n)) ∙ +ℤ-neg_ℤ_cancel (pos rest) (pos (suc n)))

-- s and as much as `rest` are not above the best: then s and t are not, either
pub no_higher : (best s t : ℤ) (rest : ℕ) → nat_abs t ≤ rest → le_z (s +ℤ pos rest) best ≡ true → le_z (s +ℤ t) best ≡ true
no_higher best s t rest small h =
    less (s +ℤ t) best (gap t rest) (rw (+ℤ_assoc s t (pos (gap t rest)), ← up_to t rest small) h)

-- no higher is not strictly higher
pub not_above : (z best : ℤ) → le_z z best ≡ true → lt_z best z ≡ false
not_above (pos a) (pos b) h = let k = leb-true a b h in le-ltb b a k
not_above (pos a) (negsuc b) h = absurd (true≢false (sym h))
not_above (negsuc a) (pos b) h = refl
not_above (negsuc a) (negsuc b) h = let k = leb-true b a h in le-ltb a b k
