-- What a ranking of a whole list answers: 11 for more than 64 stones, whatever the index; 16 for an index outside it, and so for an empty list; else the pairs. It answers one thing alone. Assumes nothing.
use mathlib.Core.Path.{◌≡◌, ◌∙◌, ap}
use Prim.Native.Nat.{ℕ, ◌<◌, ◌≤◌, zero-le}
use mathlib.Core.List.{List, []}
use lib.ListN.{length}
use lib.Seq.{take-length}
use Rattle.refusals.specs.Limits.{most_stones}
use Rattle.refusals.specs.Finding.{found, refused}
use Rattle.capstones.specs.declared.CapStone.{CapStone}
use Rattle.match_capstones.specs.Answer.{pairs_of, ranking, Tells}
use Rattle.match_capstones.specs.declared.Ranked.{Ranked}
use Rattle.match_capstones.proofs.Refusals.{ranking_many, ranking_outside, ranking_found}
use Rattle.match_capstones.proofs.Determined.{told_once}

module _ (l : List CapStone) (idx : ℕ) where
  pub lent_many : most_stones < length l → ranking l (length l) idx ≡ refused 11
  lent_many many = ranking_many l (length l) idx many

  pub lent_outside : length l ≤ most_stones → length l ≤ idx → ranking l (length l) idx ≡ refused 16
  lent_outside few out = ranking_outside l (length l) idx few out

  pub lent_found : length l ≤ most_stones → idx < length l → ranking l (length l) idx ≡ found (pairs_of l idx)
  lent_found few low = ranking_found l (length l) idx few low ∙ ap (λ (m : List CapStone). found (pairs_of m idx)) (take-length l)

  pub lent_once : (a b : Ranked) → Tells (ranking l (length l) idx) a → Tells (ranking l (length l) idx) b → a ≡ b
  lent_once a b = told_once

pub lent_none : (idx : ℕ) → ranking [] 0 idx ≡ refused 16
lent_none idx = lent_outside [] idx zero-le zero-le
