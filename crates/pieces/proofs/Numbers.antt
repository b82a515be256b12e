-- Cases on numbers. Assumes nothing.
use mathlib.Core.Path.{◌≡◌}
use mathlib.Core.Logic.{◌⊎◌, inl, inr, ⊎_elim}
use Prim.Native.Nat.{ℕ, ◌≤◌, ◌<◌}
use native.Mathlib.Omega.{arith}
use native.Mathlib.Decide.{dec_le, ℕ_discrete}

from_dec : {A B : Type 0} → ((A → ⊥) → B) → Dec A → A ⊎ B
from_dec g (yes a) = inl a
from_dec g (no n) = inr (g n)

pub split : (a b : ℕ) → (a ≤ b) ⊎ (b < a)
split a b = from_dec (λ n. omega arith) (dec_le a b)

pub same : (a b : ℕ) → (a ≡ b) ⊎ (a ≡ b → ⊥)
same a b = from_dec (λ n. n) (ℕ_discrete a b)

-- a number that is not unequal is equal
pub stable : (a b : ℕ) → ((a ≡ b → ⊥) → ⊥) → a ≡ b
stable a b g = ⊎_elim (λ e. e) (λ n. absurd (g n)) (same a b)
