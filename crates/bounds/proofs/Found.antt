-- A grid that is found has no NaN among its coefficients: its score counts points that its perspective places. Assumes nothing.
use Prim.Native.Nat.{ℕ, zero, suc, ◌-◌}
use native.Mathlib.Omega.{arith}
use mathlib.Core.Path.{◌≡◌, refl, sym, ap, ◌∙◌, subst}
use mathlib.Core.Bool.{Bool, true, false, cond}
use mathlib.Core.List.{List, [], ◌∷◌, ◌++◌}
use mathlib.Core.Logic.{inl, ⊎_elim}
use lib.Dec.{leb}
use lib.IntN.{ℤ, pos}
use lib.Ieee.{Float}
use Rattle.refusals.specs.Finding.{Finding, found, refused}
use Rattle.floats.specs.Float64.{◌⊕◌, float}
use Rattle.points.specs.declared.Point.{Point}
use Rattle.pieces.specs.Count.{Mem}
use Rattle.pieces.proofs.Counting.{mem_before, mem_after}
use Rattle.geometry.specs.Create.{sight_of}
use Rattle.geometry.specs.Map.{mapped}
use Rattle.geometry.specs.declared.Perspective.{Perspective}
use Rattle.geometry.specs.declared.Sight.{Sight}
use Rattle.geometry.specs.declared.Sight.TheVariants.{Made, Flat}
use Rattle.version_db.specs.AnnexE.{version_of}
use Rattle.fitness.specs.Expected.{Shade, dark, light, Expected, cell, mark, timing, edges, columns, expected}
use Rattle.cell_fitness.specs.Score.{◌⊞◌, opposite}
use Rattle.fitness.specs.Total.{weighed, total}
use Rattle.cell_fitness.specs.Seen.{ratio, dark_in, point_of, line_of, cell_of}
use Rattle.fitness.specs.Fitness.{score_of, fitness_of}
use Rattle.refine.specs.Adjust.{scaled, adjustments}
use Rattle.refine.specs.Refine.{scored, trial, trials, passes, refined, refined_of}
use Rattle.refine.specs.declared.Refined.{Refined}
use Rattle.refine.proofs.Earned.{refined_earned}
use Rattle.grids.specs.Grid.{grid_of, refined_grid, seen_grid, span, set_up}
use Rattle.grids.specs.declared.SkewedGridLocation.{SkewedGridLocation}
use Rattle.bounds.specs.Bounds.{with_bounds, nought, beyond, bounded_of}
use Rattle.bounds.specs.Numbers.{Numbers}
use Rattle.bounds.specs.declared.Grid.{Grid}
use Rattle.bounds.proofs.Placed.{placed_numbers}

-- ---- a sum is found where its parts are
parts : (a b : Finding ℤ) (s : ℤ) → a ⊞ b ≡ found s → ((x : ℤ) × (a ≡ found x)) × ((y : ℤ) × (b ≡ found y))
unfolding ◌⊞◌
parts (found a) (found b) s e = ((a, refl), (b, refl))
parts (found a) (refused n) s e = let z : ◌≡◌ {A = ℕ} 0 1 = cc in absurd (omega arith)
parts (refused n) b s e = let z : ◌≡◌ {A = ℕ} 0 1 = cc in absurd (omega arith)

weighed_found : (shade : Shade) (f : Finding ℤ) (s : ℤ) → weighed shade f ≡ found s → (z : ℤ) × (f ≡ found z)
unfolding opposite
weighed_found dark f s e = (s, e)
weighed_found light (found a) s e = (a, refl)
weighed_found light (refused n) s e = let z : ◌≡◌ {A = ℕ} 0 1 = cc in absurd (omega arith)

-- so each cell of a list that has a score has one
total_found : (seen : ℕ → ℕ → Finding ℤ) (es : List Expected) (s : ℤ) → total seen es ≡ found s → (e : Expected) → Mem e es → (z : ℤ) × (seen e.col e.line ≡ found z)
unfolding total
total_found seen [] s h e m = absurd m
total_found seen (d ∷ es) s h e m =
    let both = parts (weighed d.shade (seen d.col d.line)) (total seen es) s h in
    ⊎_elim
    (λ is. let w = weighed_found d.shade (seen d.col d.line) both.0.0 both.0.1 in (w.0, ap (λ (v : Expected). seen v.col v.line) is ∙ w.1))
    (λ n. total_found seen es both.1.0 both.1.1 e n)
    m

-- the middle of the first mark is expected, whatever the size
abbrev middle : Expected
middle = cell dark 3 3

in_mark : Mem middle (mark 0 0)
unfolding mark
in_mark = inl refl

middle_expected : (size : ℕ) → Mem middle (expected size)
unfolding expected
middle_expected size =
    let first = timing size ++ mark 0 0 in
    let second = first ++ mark (size - 7) 0 in
    let third = second ++ mark 0 (size - 7) in
    let fourth = third ++ edges (version_of size) in
    mem_before fourth (columns (version_of size)) middle
    (mem_before third (edges (version_of size)) middle
    (mem_before second (mark 0 (size - 7)) middle
    (mem_before first (mark (size - 7) 0) middle
    (mem_after (timing size) (mark 0 0) middle in_mark))))

-- ---- a perspective that has a score
module _ (pic : List ℕ) (width height : ℕ) where
  point_found : (c : Perspective) (u v : Float) (s : ℤ) → point_of pic width height c u v ≡ found s → (p : Point) × (mapped c u v ≡ found p)
  unfolding point_of dark_in
  point_found c u v s e = go (mapped c u v) e
    where
      go : (f : Finding Point) → dark_in pic width height f ≡ found s → (p : Point) × (f ≡ found p)
      go (found p) h = (p, refl)
      go (refused n) h = let z : ◌≡◌ {A = ℕ} 0 1 = cc in absurd (omega arith)

  line_numbers : (c : Perspective) (x v : Float) (s : ℤ) → line_of pic width height c x v ≡ found s → Numbers c
  unfolding line_of
  line_numbers c x v s e =
      let last = (parts _ (point_of pic width height c (x ⊕ ratio 7 10) v) s e).1 in
      let p = point_found c (x ⊕ ratio 7 10) v last.0 last.1 in
      placed_numbers c (x ⊕ ratio 7 10) v p.0 p.1

  cell_numbers : (c : Perspective) (x y : ℕ) (s : ℤ) → cell_of pic width height c x y ≡ found s → Numbers c
  unfolding cell_of
  cell_numbers c x y s e =
      let last = (parts _ (line_of pic width height c (float (pos x)) (float (pos y) ⊕ ratio 7 10)) s e).1 in
      line_numbers c (float (pos x)) (float (pos y) ⊕ ratio 7 10) last.0 last.1

  pub fitness_numbers : (size : ℕ) (c : Perspective) (s : ℤ) → fitness_of pic width height size c ≡ found s → Numbers c
  unfolding score_of
  fitness_numbers size c s e =
      let here = total_found (cell_of pic width height c) (expected size) s e middle (middle_expected size) in
      cell_numbers c 3 3 here.0 here.1

-- ---- a perspective that is refined
module _ (score : Perspective → Finding ℤ) where
  trials_refused : (steps : Perspective) (i n : ℕ) → trials score steps i (refused n) ≡ refused n
  unfolding trials trial
  trials_refused steps zero n = refl
  trials_refused steps (suc i) n = rw (trials_refused steps i n)

  passes_refused : (steps : Perspective) (i n : ℕ) → passes score steps i (refused n) ≡ refused n
  unfolding passes
  passes_refused steps zero n = refl
  passes_refused steps (suc i) n = rw (passes_refused steps i n) (trials_refused (adjustments steps i) 16 n)

  -- where refinement finds something, the start has a score
  start_scored : (c : Perspective) (r : Refined) → refined score c ≡ found r → (s : ℤ) × (score c ≡ found s)
  unfolding refined scored
  start_scored c r e = go (score c) e
    where
      go : (f : Finding ℤ) → passes score (scaled c (ratio 2 100)) 5 (scored c f) ≡ found r → (s : ℤ) × (f ≡ found s)
      go (found s) h = (s, refl)
      go (refused n) h = let same = sym (passes_refused (scaled c (ratio 2 100)) 5 n) ∙ h in let z : ◌≡◌ {A = ℕ} 0 1 = cc in absurd (omega arith)

-- ---- a grid that is found
module _ (pic : List ℕ) (width height size : ℕ) (g : SkewedGridLocation) where
  refined_numbers : (c : Perspective) → refined_grid pic width height size c ≡ found (g ∷ []) → Numbers g.c
  unfolding refined_grid grid_of
  refined_numbers c e = go (refined_of pic width height size c) refl e
    where
      go : (f : Finding Refined) → refined_of pic width height size c ≡ f → grid_of size f ≡ found (g ∷ []) → Numbers g.c
      go (found best) is h =
          let score = fitness_of pic width height size in
          let start = start_scored score c best is in
          let own = (refined_earned score c start.0 best start.1 is).own in
          let same : best.c ≡ g.c = cc in
          subst Numbers same (fitness_numbers pic width height size best.c best.score own)
      go (refused n) is h = let z : ◌≡◌ {A = ℕ} 0 1 = cc in absurd (omega arith)

  pub grid_numbers : (p0 p1 p2 p3 : Point) → set_up pic width height size p0 p1 p2 p3 ≡ found (g ∷ []) → Numbers g.c
  unfolding set_up seen_grid
  grid_numbers p0 p1 p2 p3 e = go (leb 41 (version_of size)) (sight_of p0 p1 p2 p3 (span pic width height size) (span pic width height size)) e
    where
      go : (many : Bool) (s : Sight) → cond many (found []) (seen_grid pic width height size s) ≡ found (g ∷ []) → Numbers g.c
      go true s h = let z : ◌≡◌ {A = ℕ} 0 1 = cc in absurd (omega arith)
      go false (Made c) h = refined_numbers c h
      go false Flat h = let z : ◌≡◌ {A = ℕ} 0 1 = cc in absurd (omega arith)

-- ---- a grid with its bounds: its first bound is placed
pub bounded_numbers : (g : SkewedGridLocation) (b : Grid) → bounded_of g ≡ found b → Numbers b.c
unfolding bounded_of with_bounds
bounded_numbers g b e =
    let s = beyond g.size in
    go (mapped g.c nought nought) refl (mapped g.c s nought) (mapped g.c s s) (mapped g.c nought s) e
  where
    go : (b0 : Finding Point) → mapped g.c nought nought ≡ b0 → (b1 b2 b3 : Finding Point) → with_bounds g b0 b1 b2 b3 ≡ found b → Numbers b.c
    go (found p0) is (found p1) (found p2) (found p3) h = let same : g.c ≡ b.c = cc in subst Numbers same (placed_numbers g.c nought nought p0 is)
    go (found p0) is (found p1) (found p2) (refused n) h = let z : ◌≡◌ {A = ℕ} 0 1 = cc in absurd (omega arith)
    go (found p0) is (found p1) (refused n) b3 h = let z : ◌≡◌ {A = ℕ} 0 1 = cc in absurd (omega arith)
    go (found p0) is (refused n) b2 b3 h = let z : ◌≡◌ {A = ℕ} 0 1 = cc in absurd (omega arith)
    go (refused n) is b1 b2 b3 h = let z : ◌≡◌ {A = ℕ} 0 1 = cc in absurd (omega arith)
