-- Fitness sees white and not white: two pictures that are white at the same pixels have the same. Assumes nothing.
use Prim.Native.Nat.{ℕ, ◌<◌}
use mathlib.Core.Path.{◌≡◌, refl, sym, ap, ◌∙◌}
use mathlib.Core.List.{List, [], ◌∷◌}
use mathlib.Core.Logic.{⊎_elim}
use lib.IntN.{ℤ, pos, negsuc}
use lib.Ieee.{Float}
use Rattle.refusals.specs.Finding.{Finding, found, refused}
use Rattle.points.specs.declared.Point.{Point}
use Rattle.geometry.specs.Map.{mapped}
use Rattle.geometry.specs.declared.Perspective.{Perspective}
use Rattle.pieces.specs.Picture.{px}
use Rattle.pieces.proofs.Numbers.{split, same}
use Rattle.fitness.specs.Expected.{Expected, expected}
use Rattle.fitness.specs.Total.{total}
use Rattle.cell_fitness.specs.Seen.{dark_at, dark_in, point_of, line_of, cell_of}
use Rattle.fitness.specs.Fitness.{SameWhite, score_of, fitness_of}
use Rattle.cell_fitness.proofs.Dark.{dark_behind, dark_below, dark_white, dark_coloured}

-- cells that are seen alike score alike
total_alike : (f g : ℕ → ℕ → Finding ℤ) → ((x y : ℕ) → f x y ≡ g x y) → (es : List Expected) → total f es ≡ total g es
unfolding total
total_alike f g h [] = refl
total_alike f g h (e ∷ es) = rw (h e.col e.line, total_alike f g h es)

module _ (p q : List ℕ) (width height : ℕ) (white : SameWhite width height p q) where
  at_pixel : (x y : ℕ) → x < width → y < height → dark_at p width height (pos x) (pos y) ≡ dark_at q width height (pos x) (pos y)
  at_pixel x y a b =
      ⊎_elim
      (λ e. sym (dark_white p width height x y a b e) ∙ dark_white q width height x y a b ((white x y a b).0 e))
      (λ n. sym (dark_coloured p width height x y a b n) ∙ dark_coloured q width height x y a b (λ e. n ((white x y a b).1 e)))
      (same (px p width x y) 0)

  dark_alike : (x y : ℤ) → dark_at p width height x y ≡ dark_at q width height x y
  unfolding dark_at
  dark_alike (pos x) (pos y) =
      ⊎_elim
      (λ out. sym (dark_behind p width height x y out) ∙ dark_behind q width height x y out)
      (λ a. ⊎_elim (λ out. sym (dark_below p width height x y a out) ∙ dark_below q width height x y a out) (λ b. at_pixel x y a b) (split height y))
      (split width x)
  dark_alike (pos x) (negsuc y) = refl
  dark_alike (negsuc x) y = refl

  in_alike : (f : Finding Point) → dark_in p width height f ≡ dark_in q width height f
  unfolding dark_in
  in_alike (found o) = ap found (dark_alike o.x o.y)
  in_alike (refused n) = refl

  module _ (c : Perspective) where
    point_alike : (u v : Float) → point_of p width height c u v ≡ point_of q width height c u v
    unfolding point_of
    point_alike u v = in_alike (mapped c u v)

    line_alike : (x v : Float) → line_of p width height c x v ≡ line_of q width height c x v
    unfolding line_of
    line_alike x v = rw (point_alike, point_alike, point_alike)

    cell_alike : (x y : ℕ) → cell_of p width height c x y ≡ cell_of q width height c x y
    unfolding cell_of
    cell_alike x y = rw (line_alike, line_alike, line_alike)

    pub fitness_white : (size : ℕ) → fitness_of p width height size c ≡ fitness_of q width height size c
    unfolding score_of
    fitness_white size = total_alike (cell_of p width height c) (cell_of q width height c) cell_alike (expected size)
