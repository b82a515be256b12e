-- What is true of every pair that a ranking answers, and of all of them together: the statements of the laws. Assumes nothing.
use Rattle.std.specs.Prelude.{ℕ, ◌<◌, ◌≡◌, List}
use Rattle.match_capstones.specs.All.{Pairwise}
use Rattle.match_capstones.specs.declared.Pair.{Pair}

-- a pair of two stones, of n, beside stone idx: three different stones
pub record Proper (n idx : ℕ) (p : Pair) : Type 0 where
  pub h_low : p.h < n
  pub v_low : p.v < n
  pub h_other : p.h ≡ idx → ⊥
  pub v_other : p.v ≡ idx → ⊥
  pub apart : p.h ≡ p.v → ⊥

-- two pairs differ
abbrev pub Differ : Pair → Pair → Type 0
Differ p q = p.h ≡ q.h → p.v ≡ q.v → ⊥

-- no pair stands twice
abbrev pub Once : List Pair → Type 0
Once = Pairwise Differ
