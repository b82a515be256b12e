-- `rounding::minus` meets its contract. Assumes nothing.
use mathlib.Core.Path.{◌≡◌, ap, ◌∙◌, sym, subst}
use Prim.Native.Nat.{ℕ, zero, suc, ◌≤◌, ◌<◌, ◌^◌}
use native.Mathlib.Omega.{arith}
use lib.Dec.{lit<}
use lib.IntN.{ℤ, pos, neg_ℤ, ◌-ℤ◌, +ℤ_idl}
use lib.Signed.{mag}
use mir.Syntax.{w32, w64}
use mir.Val.{SFits, to_z, of_z}
use mir.Facts.{to_z_pos, to_z-of_z}
use Rattle.rounding.proofs.minus.Goals as goal

minus_is : (n : ℕ) → n ≤ 2 ^ 31 → pos 0 -ℤ to_z w64 n ≡ neg_ℤ (pos n)
minus_is n h = ap (λ (z : ℤ). pos 0 -ℤ z) (to_z_pos w64 {n = n} (omega arith)) ∙ +ℤ_idl (neg_ℤ (pos n))

mag_minus : (n : ℕ) → n ≤ 2 ^ 31 → mag (neg_ℤ (pos n)) < 2 ^ 31
mag_minus zero h = lit< tt
mag_minus (suc n) h = h

fits64 : (n : ℕ) → n ≤ 2 ^ 31 → SFits w64 (pos 0 -ℤ to_z w64 n)
fits64 n h = rw (minus_is n h) (record { sfits = let k = mag_minus n h in omega arith })

back : (n : ℕ) → n ≤ 2 ^ 31 → to_z w64 (of_z w64 (pos 0 -ℤ to_z w64 n)) ≡ neg_ℤ (pos n)
back n h = to_z-of_z (fits64 n h) ∙ minus_is n h

fits32 : (n : ℕ) → n ≤ 2 ^ 31 → SFits w32 (neg_ℤ (pos n))
fits32 n h = record { sfits = mag_minus n h }

pub overflow_sub-result : goal.overflow_sub-result
overflow_sub-result c = fits64 c.args.n c.requires

pub overflow_cast-result-2 : goal.overflow_cast-result-2
overflow_cast-result-2 c = subst (SFits w32) (sym (back c.args.n c.requires)) (fits32 c.args.n c.requires)

pub returns : goal.returns
returns c = ap (λ (z : ℤ). to_z w32 (of_z w32 z)) (back c.args.n c.requires) ∙ to_z-of_z (fits32 c.args.n c.requires)
