-- Sums of scores: they can be taken part by part. Assumes nothing.
use Prim.Native.Nat.{ℕ, ◌+◌, ◌*◌, ◌≤◌}
use native.Mathlib.Nat.{le_refl}
use native.Mathlib.Omega.{arith}
use mathlib.Core.Path.{◌≡◌, refl, ap}
use lib.IntN.{ℤ, pos, +ℤ_idl, +ℤ_idr, +ℤ_assoc, neg_ℤ-+ℤ}
use Rattle.refusals.specs.Finding.{Finding, found, refused}
use Rattle.sizes.proofs.Size.{size_add, size_neg}
use Rattle.cell_fitness.specs.Score.{◌⊞◌, opposite, extent}
use Rattle.cell_fitness.specs.Scores.{meaning, Scores}
use Rattle.cell_fitness.specs.declared.Fitness.{Fitness}

pub plus_assoc : (a b c : Finding ℤ) → a ⊞ b ⊞ c ≡ a ⊞ (b ⊞ c)
unfolding ◌⊞◌
plus_assoc (found a) (found b) (found c) = ap found (+ℤ_assoc a b c)
plus_assoc (found a) (found b) (refused n) = refl
plus_assoc (found a) (refused n) c = refl
plus_assoc (refused n) b c = refl

pub nothing_plus : (a : Finding ℤ) → found (pos 0) ⊞ a ≡ a
unfolding ◌⊞◌
nothing_plus (found a) = ap found (+ℤ_idl a)
nothing_plus (refused n) = refl

pub plus_nothing : (a : Finding ℤ) → a ⊞ found (pos 0) ≡ a
unfolding ◌⊞◌
plus_nothing (found a) = ap found (+ℤ_idr a)
plus_nothing (refused n) = refl

pub opposite_plus : (a b : Finding ℤ) → opposite (a ⊞ b) ≡ opposite a ⊞ opposite b
unfolding ◌⊞◌ opposite
opposite_plus (found a) (found b) = ap found (neg_ℤ-+ℤ a b)
opposite_plus (found a) (refused n) = refl
opposite_plus (refused n) b = refl

pub extent_plus : (a b : Finding ℤ) → extent (a ⊞ b) ≤ extent a + extent b
unfolding ◌⊞◌ extent
extent_plus (found a) (found b) = size_add a b
extent_plus (found a) (refused n) = omega arith
extent_plus (refused n) b = omega arith

pub extent_opposite : (a : Finding ℤ) → extent (opposite a) ≡ extent a
unfolding opposite extent
extent_opposite (found a) = size_neg a
extent_opposite (refused n) = refl

-- an answer that means a sum
pub scores_sum : (f g : Finding ℤ) (r : Fitness) → meaning r ≡ f ⊞ g → Scores (f ⊞ g) (extent f + extent g) r
scores_sum f g r e = record { is = e; small = rw e (extent_plus f g) }

-- an answer that means an opposite
pub scores_opposite : (f : Finding ℤ) (r : Fitness) → meaning r ≡ opposite f → Scores (opposite f) (extent f) r
scores_opposite f r e = record { is = e; small = rw (e, extent_opposite) (le_refl (extent f)) }

-- three answers taken one after the other
pub scores_three : {f g h : Finding ℤ} {most : ℕ} {a b d two r : Fitness} → Scores f most a → Scores g most b → Scores h most d → Scores (meaning a ⊞ meaning b) (extent (meaning a) + extent (meaning b)) two → Scores (meaning two ⊞ meaning d) (extent (meaning two) + extent (meaning d)) r → Scores (f ⊞ g ⊞ h) (3 * most) r
scores_three p q t both all =
    record {
      is = rw (all.is, both.is, p.is, q.is, t.is);
      small = let a = all.small in let b = both.small in let x = p.small in let y = q.small in let z = t.small in omega arith;
    }
