-- Scores that are found, and how far from 0 they can be. Assumes nothing.
use Prim.Native.Nat.{ℕ, ◌+◌, ◌≤◌}
use native.Mathlib.Nat.{le_refl}
use native.Mathlib.Omega.{arith}
use mathlib.Core.Path.{◌≡◌, refl}
use lib.IntN.{ℤ, pos, neg_ℤ, nat_abs, ◌+ℤ◌}
use Rattle.refusals.specs.Finding.{Finding, found}
use Rattle.sizes.proofs.Size.{size_add, size_neg}
use Rattle.cell_fitness.specs.Score.{◌⊞◌, opposite}
use Rattle.fitness.specs.Expected.{Shade, dark, light}
use Rattle.fitness.specs.Total.{weighed}

-- a score that is found, no further from 0 than a bound
pub record Reach (most : ℕ) (f : Finding ℤ) : Type 0 where
  pub score : ℤ
  pub is : f ≡ found score
  pub small : nat_abs score ≤ most

-- no score yet
pub reach_nothing : Reach 0 (found (pos 0))
reach_nothing = record { score = pos 0; is = refl; small = le_refl 0 }

-- two scores together
pub reach_plus : {f g : Finding ℤ} {a b : ℕ} → Reach a f → Reach b g → Reach (a + b) (f ⊞ g)
unfolding ◌⊞◌
reach_plus p q =
    record {
      score = p.score +ℤ q.score;
      is = rw (p.is, q.is);
      small = let h = size_add p.score q.score in let k = p.small in let l = q.small in omega arith;
    }

-- what a cell adds is as far from 0 as its darkness
pub reach_weighed : (s : Shade) {f : Finding ℤ} {a : ℕ} → Reach a f → Reach a (weighed s f)
unfolding opposite
reach_weighed dark p = p
reach_weighed light p = record { score = neg_ℤ p.score; is = rw p.is; small = rw (size_neg p.score) p.small }
