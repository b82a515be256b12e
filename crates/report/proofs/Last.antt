-- Texts by their last byte. Assumes nothing.
use Prim.Native.Nat.{ℕ, ◌+◌, ◌-◌, ◌*◌}
use mathlib.Core.Path.{◌≡◌, refl, ap}
use mathlib.Core.Bool.{Bool, true, false, ◌&&◌}
use mathlib.Core.List.{List, [], ◌∷◌, ◌++◌}
use Rattle.netpbm.specs.Form.{all, said_after}
use Rattle.report.specs.Numbers.{hex_value, hex_said_after}

-- a text that is not empty, before and at its last byte
pub record Ended (s : List ℕ) : Type 0 where
  pub first : List ℕ
  pub last : ℕ
  pub whole : s ≡ first ++ (last ∷ [])

pub ended : (b : ℕ) (s : List ℕ) → Ended (b ∷ s)
ended b [] = record { first = []; last = b; whole = refl }
ended b (c ∷ s) = let E = ended c s in record { first = b ∷ E.first; last = E.last; whole = ap (λ (l : List ℕ). b ∷ l) E.whole }

-- what holds of every byte holds of the first ones and of the last
pub all_last : (test : ℕ → Bool) (s : List ℕ) (b : ℕ) → all test (s ++ (b ∷ [])) ≡ (all test s && test b)
unfolding all
all_last test [] b = go (test b)
  where
    go : (t : Bool) → (t && true) ≡ t
    go true = refl
    go false = refl
all_last test (c ∷ s) b = go (test c) (all_last test s b)
  where
    go : (t : Bool) → all test (s ++ (b ∷ [])) ≡ (all test s && test b) → (t && all test (s ++ (b ∷ []))) ≡ ((t && all test s) && test b)
    go true e = e
    go false e = refl

-- the last digit counts once, the others ten times, or sixteen times, what they say
pub said_last : (n : ℕ) (s : List ℕ) (b : ℕ) → said_after n (s ++ (b ∷ [])) ≡ said_after n s * 10 + (b - 48)
unfolding said_after
said_last n [] b = refl
said_last n (c ∷ s) b = said_last (n * 10 + (c - 48)) s b

pub hex_said_last : (n : ℕ) (s : List ℕ) (b : ℕ) → hex_said_after n (s ++ (b ∷ [])) ≡ hex_said_after n s * 16 + hex_value b
unfolding hex_said_after
hex_said_last n [] b = refl
hex_said_last n (c ∷ s) b = hex_said_last (n * 16 + hex_value c) s b
