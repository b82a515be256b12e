-- The score of a grid part by part, and of a mark and an alignment pattern ring by ring: a light ring counts as a dark one does, against. Assumes nothing.
use Prim.Native.Nat.{ℕ, ◌+◌, ◌-◌, ◌*◌}
use mathlib.Core.Path.{◌≡◌}
use mathlib.Core.List.{List}
use lib.IntN.{ℤ}
use Rattle.refusals.specs.Finding.{Finding}
use Rattle.geometry.specs.declared.Perspective.{Perspective}
use Rattle.version_db.specs.AnnexE.{version_of}
use Rattle.cell_fitness.specs.Score.{◌⊞◌, opposite}
use Rattle.cell_fitness.specs.Seen.{cell_of}
use Rattle.fitness.specs.Expected.{Expected, dark, light, timing, sides, ring, mark, pattern, edges, columns, expected}
use Rattle.fitness.specs.Total.{total}
use Rattle.fitness.specs.Fitness.{score_of}
use Rattle.cell_fitness.proofs.Sums.{plus_assoc, opposite_plus}
use Rattle.fitness.proofs.Totals.{each_opposite, score_cons, scores_append}

sides_opposite : (seen : ℕ → ℕ → Finding ℤ) (x y r i : ℕ) → total seen (sides light x y r i) ≡ opposite (total seen (sides dark x y r i))
unfolding total opposite
sides_opposite seen x y r i = rw (opposite_plus, opposite_plus, opposite_plus, opposite_plus)

module _ (pic : List ℕ) (width height : ℕ) (c : Perspective) (x y : ℕ) where
  light_ring : (r : ℕ) → score_of pic width height c (ring light x y r) ≡ opposite (score_of pic width height c (ring dark x y r))
  unfolding score_of ring
  light_ring r = each_opposite (cell_of pic width height c) (sides light x y r) (sides dark x y r) (sides_opposite (cell_of pic width height c) x y r) (2 * r)

  pub score_pattern : score_of pic width height c (pattern x y) ≡ cell_of pic width height c x y ⊞ opposite (score_of pic width height c (ring dark x y 1)) ⊞ score_of pic width height c (ring dark x y 2)
  unfolding pattern
  score_pattern = rw (score_cons, scores_append, light_ring, ← plus_assoc)

module _ (pic : List ℕ) (width height : ℕ) (c : Perspective) (x y : ℕ) where
  pub score_mark : score_of pic width height c (mark x y) ≡ cell_of pic width height c (x + 3) (y + 3) ⊞ score_of pic width height c (ring dark (x + 3) (y + 3) 1) ⊞ opposite (score_of pic width height c (ring dark (x + 3) (y + 3) 2)) ⊞ score_of pic width height c (ring dark (x + 3) (y + 3) 3)
  unfolding mark
  score_mark = rw (score_cons, scores_append, scores_append, light_ring, ← plus_assoc, ← plus_assoc)

module _ (pic : List ℕ) (width height : ℕ) (c : Perspective) where
  abbrev pub part : List Expected → Finding ℤ
  part = score_of pic width height c

  pub score_expected : (size : ℕ) → score_of pic width height c (expected size) ≡ part (timing size) ⊞ part (mark 0 0) ⊞ part (mark (size - 7) 0) ⊞ part (mark 0 (size - 7)) ⊞ part (edges (version_of size)) ⊞ part (columns (version_of size))
  unfolding expected
  score_expected size = rw (scores_append, scores_append, scores_append, scores_append, scores_append)
