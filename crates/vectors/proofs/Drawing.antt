-- Pictures pixel by pixel. Assumes nothing.
use Prim.Native.Nat.{ℕ, ◌+◌, ◌≤◌, ◌<◌}
use native.Mathlib.Decide.{ℕ_discrete}
use native.Mathlib.Omega.{arith}
use mathlib.Core.Path.{◌≡◌, refl, ap, sym, ◌∙◌}
use mathlib.Core.Logic.{by_cases}
use mathlib.Core.List.{List}
use lib.ListN.{length, get_or, set, length-set}
use lib.Seq.{get_or-set_same, get_or-set_other}
use Rattle.vectors.specs.Pictures.{Shows}

-- a picture of n pixels, drawn up to pixel i
pub record Drawing (rule : ℕ → ℕ) (n i : ℕ) (p : List ℕ) : Type 0 where
  pub within : i ≤ n
  pub long : length p ≡ n
  pub shown : Shows rule i p

-- no pixel yet
pub draws : (rule : ℕ → ℕ) (p : List ℕ) → Drawing rule (length p) 0 p
draws rule p = record { within = omega arith; long = refl; shown = λ k b. absurd (omega arith) }

shows_on : (rule : ℕ → ℕ) (i : ℕ) (p : List ℕ) (v : ℕ) → i < length p → v ≡ rule i → Shows rule i p → Shows rule (i + 1) (set p i v)
shows_on rule i p v h e old k b =
    by_cases (ℕ_discrete k i)
    (λ at. ap (λ (j : ℕ). get_or (set p i v) j 0) at ∙ get_or-set_same p i v 0 h ∙ e ∙ ap rule (sym at))
    (λ off. get_or-set_other p i k v 0 off ∙ old k (omega arith))

-- one pixel more
pub draws_on : (rule : ℕ → ℕ) (n i : ℕ) (p : List ℕ) (v : ℕ) → i < length p → v ≡ rule i → Drawing rule n i p → Drawing rule n (i + 1) (set p i v)
draws_on rule n i p v h e d = record {
  within = let l = d.long in omega arith;
  long = length-set p i v ∙ d.long;
  shown = shows_on rule i p v h e d.shown;
}

-- every pixel
pub drawn : (rule : ℕ → ℕ) (n i : ℕ) (p : List ℕ) → length p ≤ i → Drawing rule n i p → Shows rule n p
drawn rule n i p h d k b = d.shown k (let l = d.long in omega arith)
