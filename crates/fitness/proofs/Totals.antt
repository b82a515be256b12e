-- Scores of expected cells: they can be summed part by part, and a list of light cells counts as the dark ones do, against. Assumes nothing.
use Prim.Native.Nat.{ℕ, zero, suc, ◌+◌, ◌-◌, ◌≤◌}
use native.Mathlib.Nat.{le_refl}
use native.Mathlib.Numerals.{add-one}
use native.Mathlib.Omega.{arith}
use mathlib.Core.Path.{◌≡◌, refl, sym, ap, ◌∙◌}
use mathlib.Core.List.{List, [], ◌∷◌, ◌++◌}
use lib.IntN.{ℤ, pos}
use Rattle.refusals.specs.Finding.{Finding}
use Rattle.geometry.specs.declared.Perspective.{Perspective}
use Rattle.cell_fitness.specs.Score.{◌⊞◌, opposite, extent}
use Rattle.cell_fitness.specs.Seen.{cell_of}
use Rattle.cell_fitness.specs.Scores.{meaning, Scores}
use Rattle.cell_fitness.specs.declared.Fitness.{Fitness}
use Rattle.cell_fitness.specs.declared.Fitness.TheVariants.{Score}
use Rattle.cell_fitness.proofs.Sums.{plus_assoc, nothing_plus, plus_nothing, opposite_plus}
use Rattle.fitness.specs.Expected.{Expected, each}
use Rattle.fitness.specs.Total.{weighed, total}
use Rattle.fitness.specs.Fitness.{score_of}

module _ (seen : ℕ → ℕ → Finding ℤ) where
  pub total_append : (xs ys : List Expected) → total seen (xs ++ ys) ≡ total seen xs ⊞ total seen ys
  unfolding total
  total_append [] ys = sym (nothing_plus (total seen ys))
  total_append (e ∷ xs) ys = rw (total_append xs ys) (sym (plus_assoc (weighed e.shade (seen e.col e.line)) (total seen xs) (total seen ys)))

  pub each_more : (f : ℕ → List Expected) (n : ℕ) → total seen (each (suc n) f) ≡ total seen (each n f) ⊞ total seen (f n)
  each_more f n = total_append (each n f) (f n)

  -- turns that count against each other make sums that do
  pub each_opposite : (f g : ℕ → List Expected) → ((i : ℕ) → total seen (f i) ≡ opposite (total seen (g i))) → (n : ℕ) → total seen (each n f) ≡ opposite (total seen (each n g))
  unfolding total opposite
  each_opposite f g h zero = refl
  each_opposite f g h (suc n) =
      each_more f n ∙ rw (each_opposite f g h n, h n) (sym (opposite_plus (total seen (each n g)) (total seen (g n)))) ∙ ap opposite (sym (each_more g n))

-- ---- answers that mean the scores of a list's cells
module _ (pic : List ℕ) (width height : ℕ) (c : Perspective) where
  -- what a cell adds
  abbrev pub weight : Expected → Finding ℤ
  weight e = weighed e.shade (cell_of pic width height c e.col e.line)

  -- a short list, cell by cell
  pub score_two : (e f : Expected) → score_of pic width height c (e ∷ f ∷ []) ≡ weight e ⊞ weight f
  unfolding score_of total
  score_two e f = rw (plus_nothing (weight f))

  pub score_four : (e f g h : Expected) → score_of pic width height c (e ∷ f ∷ g ∷ h ∷ []) ≡ weight e ⊞ weight f ⊞ weight g ⊞ weight h
  unfolding score_of total
  score_four e f g h = rw (plus_nothing (weight h), ← plus_assoc, ← plus_assoc)

  pub score_cons : (e : Expected) (es : List Expected) → score_of pic width height c (e ∷ es) ≡ weight e ⊞ score_of pic width height c es
  unfolding score_of total
  score_cons e es = refl

  pub scores_append : (xs ys : List Expected) → score_of pic width height c (xs ++ ys) ≡ score_of pic width height c xs ⊞ score_of pic width height c ys
  unfolding score_of
  scores_append xs ys = total_append (cell_of pic width height c) xs ys

  -- turn by turn
  pub no_turns : Scores (score_of pic width height c []) 0 (Score (pos 0))
  unfolding score_of total extent
  no_turns = record { is = refl; small = le_refl 0 }

  pub one_more : (turn : ℕ → List Expected) (i : ℕ) {most more n : ℕ} {before this r : Fitness} → Scores (score_of pic width height c (each i turn)) most before → Scores (score_of pic width height c (turn i)) more this → Scores (meaning before ⊞ meaning this) (extent (meaning before) + extent (meaning this)) r → most + more ≤ n → Scores (score_of pic width height c (each (i + 1) turn)) n r
  one_more turn i p q s few =
      record {
        is = s.is ∙ rw (p.is, q.is, add-one) (sym (scores_append (each i turn) (turn i)));
        small = let a = s.small in let b = p.small in let d = q.small in omega arith;
      }

  -- the same for turns that are counted from a first place on
  pub one_place : (at : ℕ → List Expected) (from k : ℕ) {most more n : ℕ} {before this r : Fitness} → from ≤ k → Scores (score_of pic width height c (each (k - from) (λ i. at (from + i)))) most before → Scores (score_of pic width height c (at k)) more this → Scores (meaning before ⊞ meaning this) (extent (meaning before) + extent (meaning this)) r → most + more ≤ n → Scores (score_of pic width height c (each (k + 1 - from) (λ i. at (from + i)))) n r
  one_place at from k low p q s few =
      let here : from + (k - from) ≡ k = omega arith in
      let next : k + 1 - from ≡ k - from + 1 = omega arith in
      rw next (one_more (λ i. at (from + i)) (k - from) p (rw here q) s few)
