-- What scores, refinement and the grid meet: 13. Assumes nothing.
use Prim.Native.Nat.{ℕ, zero, suc}
use mathlib.Core.Bool.{Bool, true, false, cond}
use mathlib.Core.List.{List, [], ◌∷◌}
use lib.Dec.{leb}
use lib.IntN.{ℤ, pos}
use lib.Ieee.{Float}
use Rattle.refusals.specs.Finding.{Finding, found, refused}
use Rattle.floats.specs.Float64.{◌⊕◌, float}
use Rattle.points.specs.declared.Point.{Point}
use Rattle.geometry.specs.Create.{sight_of}
use Rattle.geometry.specs.Map.{mapped}
use Rattle.geometry.specs.declared.Perspective.{Perspective}
use Rattle.geometry.specs.declared.Sight.{Sight}
use Rattle.geometry.specs.declared.Sight.TheVariants.{Made, Flat}
use Rattle.version_db.specs.AnnexE.{version_of}
use Rattle.cell_fitness.specs.Score.{◌⊞◌, opposite}
use Rattle.cell_fitness.specs.Seen.{ratio, dark_in, point_of, line_of, cell_of}
use Rattle.fitness.specs.Expected.{Shade, dark, light, Expected, expected}
use Rattle.fitness.specs.Total.{weighed, total}
use Rattle.fitness.specs.Fitness.{score_of, fitness_of}
use Rattle.refine.specs.Adjust.{scaled, adjusted, adjustments}
use Rattle.refine.specs.Refine.{scored, judged, trial, trials, passes, refined, refined_of}
use Rattle.refine.specs.declared.Refined.{Refined}
use Rattle.grids.specs.Grid.{grid_of, refined_grid, seen_grid, span, set_up}
use Rattle.met.specs.Met.{Met}
use Rattle.met.proofs.Points.{mapped_met}

sum_met : (a b : Finding ℤ) → Met a → Met b → Met (a ⊞ b)
unfolding ◌⊞◌
sum_met (found a) (found b) k l = tt
sum_met (found a) (refused n) k l = l
sum_met (refused n) b k l = k

weighed_met : (shade : Shade) (f : Finding ℤ) → Met f → Met (weighed shade f)
unfolding opposite
weighed_met dark f m = m
weighed_met light (found a) m = tt
weighed_met light (refused n) m = m

total_met : (seen : ℕ → ℕ → Finding ℤ) → ((x y : ℕ) → Met (seen x y)) → (es : List Expected) → Met (total seen es)
unfolding total
total_met seen each [] = tt
total_met seen each (e ∷ es) = sum_met (weighed e.shade (seen e.col e.line)) (total seen es) (weighed_met e.shade (seen e.col e.line) (each e.col e.line)) (total_met seen each es)

module _ (pic : List ℕ) (width height : ℕ) where
  point_met : (c : Perspective) (u v : Float) → Met (point_of pic width height c u v)
  unfolding point_of dark_in
  point_met c u v = go (mapped c u v) (mapped_met c u v)
    where
      go : (f : Finding Point) → Met f → Met (dark_in pic width height f)
      go (found p) m = tt
      go (refused n) m = m

  line_met : (c : Perspective) (x v : Float) → Met (line_of pic width height c x v)
  unfolding line_of
  line_met c x v = sum_met _ _ (sum_met _ _ (point_met c (x ⊕ ratio 3 10) v) (point_met c (x ⊕ ratio 5 10) v)) (point_met c (x ⊕ ratio 7 10) v)

  cell_met : (c : Perspective) (x y : ℕ) → Met (cell_of pic width height c x y)
  unfolding cell_of
  cell_met c x y =
      sum_met _ _ (sum_met _ _ (line_met c (float (pos x)) (float (pos y) ⊕ ratio 3 10)) (line_met c (float (pos x)) (float (pos y) ⊕ ratio 5 10))) (line_met c (float (pos x)) (float (pos y) ⊕ ratio 7 10))

  fitness_met : (size : ℕ) (c : Perspective) → Met (fitness_of pic width height size c)
  unfolding score_of
  fitness_met size c = total_met (cell_of pic width height c) (cell_met c) (expected size)

-- ---- refinement
scored_met : (c : Perspective) (f : Finding ℤ) → Met f → Met (scored c f)
unfolding scored
scored_met c (found s) m = tt
scored_met c (refused n) m = m

judged_met : (best : Refined) (f : Finding Refined) → Met f → Met (judged best f)
unfolding judged
judged_met best (found other) m = tt
judged_met best (refused n) m = m

module _ (score : Perspective → Finding ℤ) (each : (c : Perspective) → Met (score c)) where
  trial_met : (steps : Perspective) (i : ℕ) (f : Finding Refined) → Met f → Met (trial score steps i f)
  unfolding trial
  trial_met steps i (found best) m = judged_met best _ (scored_met _ _ (each (adjusted steps best.c i)))
  trial_met steps i (refused n) m = m

  trials_met : (steps : Perspective) (n : ℕ) (f : Finding Refined) → Met f → Met (trials score steps n f)
  unfolding trials
  trials_met steps zero f m = m
  trials_met steps (suc n) f m = trial_met steps n _ (trials_met steps n f m)

  passes_met : (steps : Perspective) (n : ℕ) (f : Finding Refined) → Met f → Met (passes score steps n f)
  unfolding passes
  passes_met steps zero f m = m
  passes_met steps (suc n) f m = trials_met (adjustments steps n) 16 _ (passes_met steps n f m)

  refined_met : (c : Perspective) → Met (refined score c)
  unfolding refined
  refined_met c = passes_met (scaled c (ratio 2 100)) 5 _ (scored_met c _ (each c))

-- ---- the grid
pub grid_met : (pic : List ℕ) (width height size : ℕ) (p0 p1 p2 p3 : Point) → Met (set_up pic width height size p0 p1 p2 p3)
unfolding set_up seen_grid refined_grid grid_of
grid_met pic width height size p0 p1 p2 p3 = go (leb 41 (version_of size)) (sight_of p0 p1 p2 p3 (span pic width height size) (span pic width height size))
  where
    grid : (f : Finding Refined) → Met f → Met (grid_of size f)
    grid (found best) m = tt
    grid (refused n) m = m

    go : (many : Bool) (s : Sight) → Met (cond many (found []) (seen_grid pic width height size s))
    go true s = tt
    go false (Made c) = grid (refined_of pic width height size c) (refined_met (fitness_of pic width height size) (fitness_met pic width height size) c)
    go false Flat = tt
