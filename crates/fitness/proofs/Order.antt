-- The order of the cells does not matter: 13 is the only refusal that fitness meets. Assumes nothing.
use Prim.Native.Nat.{ℕ}
use mathlib.Core.Path.{◌≡◌, refl, sym, ap, ◌∙◌}
use mathlib.Core.List.{List, [], ◌∷◌, ◌++◌}
use lib.IntN.{ℤ, +ℤ_comm}
use lib.Ieee.{Float}
use Rattle.refusals.specs.Finding.{Finding, found, refused}
use Rattle.points.specs.declared.Point.{Point}
use Rattle.geometry.specs.Map.{mapped}
use Rattle.geometry.specs.declared.Perspective.{Perspective}
use Rattle.geometry.proofs.Placed.{mapped_refused}
use Rattle.fitness.specs.Expected.{Shade, dark, light, Expected}
use Rattle.cell_fitness.specs.Score.{◌⊞◌, opposite}
use Rattle.fitness.specs.Total.{weighed, total}
use Rattle.cell_fitness.specs.Seen.{dark_in, point_of, line_of, cell_of}
use Rattle.fitness.specs.Fitness.{score_of}
use Rattle.fitness.proofs.Totals.{total_append}

-- a refusal is 13
pub record Unplaced13 (f : Finding ℤ) : Type 0 where
  pub number : (n : ℕ) → f ≡ refused n → n ≡ 13

found_13 : (a : ℤ) → Unplaced13 (found a)
found_13 a = record { number = λ n e. cc }

plus_13 : (f g : Finding ℤ) → Unplaced13 f → Unplaced13 g → Unplaced13 (f ⊞ g)
unfolding ◌⊞◌
plus_13 (found a) (found b) p q = found_13 _
plus_13 (found a) (refused n) p q = q
plus_13 (refused n) g p q = p

opposite_13 : (f : Finding ℤ) → Unplaced13 f → Unplaced13 (opposite f)
unfolding opposite
opposite_13 (found a) p = found_13 _
opposite_13 (refused n) p = p

plus_comm : (f g : Finding ℤ) → Unplaced13 f → Unplaced13 g → f ⊞ g ≡ g ⊞ f
unfolding ◌⊞◌
plus_comm (found a) (found b) p q = ap found (+ℤ_comm a b)
plus_comm (found a) (refused n) p q = refl
plus_comm (refused n) (found b) p q = refl
plus_comm (refused n) (refused m) p q = ap refused (p.number n refl ∙ sym (q.number m refl))

weighed_13 : (s : Shade) (f : Finding ℤ) → Unplaced13 f → Unplaced13 (weighed s f)
weighed_13 dark f p = p
weighed_13 light f p = opposite_13 f p

total_13 : (seen : ℕ → ℕ → Finding ℤ) → ((x y : ℕ) → Unplaced13 (seen x y)) → (es : List Expected) → Unplaced13 (total seen es)
unfolding total
total_13 seen h [] = found_13 _
total_13 seen h (e ∷ es) = plus_13 _ _ (weighed_13 e.shade (seen e.col e.line) (h e.col e.line)) (total_13 seen h es)

module _ (pic : List ℕ) (width height : ℕ) (c : Perspective) where
  in_13 : (f : Finding Point) → ((n : ℕ) → f ≡ refused n → n ≡ 13) → Unplaced13 (dark_in pic width height f)
  unfolding dark_in
  in_13 (found p) h = found_13 _
  in_13 (refused n) h = record { number = λ m e. h m (cc) }

  point_13 : (u v : Float) → Unplaced13 (point_of pic width height c u v)
  unfolding point_of
  point_13 u v = in_13 (mapped c u v) (λ n e. (mapped_refused c u v n e).0)

  line_13 : (x v : Float) → Unplaced13 (line_of pic width height c x v)
  unfolding line_of
  line_13 x v = plus_13 _ _ (plus_13 _ _ (point_13 _ v) (point_13 _ v)) (point_13 _ v)

  cell_13 : (x y : ℕ) → Unplaced13 (cell_of pic width height c x y)
  unfolding cell_of
  cell_13 x y = plus_13 _ _ (plus_13 _ _ (line_13 _ _) (line_13 _ _)) (line_13 _ _)

  pub score_13 : (es : List Expected) (n : ℕ) → score_of pic width height c es ≡ refused n → n ≡ 13
  unfolding score_of
  score_13 es = (total_13 (cell_of pic width height c) cell_13 es).number

  -- two parts of a list can change places
  pub score_swap : (xs ys : List Expected) → score_of pic width height c (xs ++ ys) ≡ score_of pic width height c (ys ++ xs)
  unfolding score_of
  score_swap xs ys =
      let seen = cell_of pic width height c in
      total_append seen xs ys ∙ plus_comm (total seen xs) (total seen ys) (total_13 seen cell_13 xs) (total_13 seen cell_13 ys) ∙ sym (total_append seen ys xs)
