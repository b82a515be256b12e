-- A tame perspective places every cell, and no cell scores further from 0 than 9. Assumes nothing.
use Prim.Native.Nat.{ℕ, ◌+◌, ◌≤◌, ◌<◌}
use native.Mathlib.Nat.{le_refl}
use native.Mathlib.Omega.{arith}
use mathlib.Core.Path.{◌≡◌, subst}
use mathlib.Core.Bool.{Bool, true, false, cond, ◌&&◌}
use mathlib.Core.List.{List}
use lib.Dec.{eqb, ltb, lit≤}
use lib.IntN.{ℤ, pos, negsuc, nat_abs, ◌+ℤ◌}
use lib.Ieee as Ieee
use lib.Ieee.{Float}
use Rattle.refusals.specs.Finding.{Finding, found, refused}
use Rattle.floats.specs.Float64.{◌⊕◌, float}
use Rattle.points.specs.declared.Point.{Point}
use Rattle.geometry.specs.Map.{mapped}
use Rattle.geometry.specs.declared.Perspective.{Perspective}
use Rattle.pieces.specs.Picture.{px}
use Rattle.cell_fitness.specs.Score.{◌⊞◌, extent}
use Rattle.cell_fitness.specs.Seen.{darkness, dark_at, dark_in, ratio, point_of, line_of, cell_of}
use Rattle.cell_fitness.proofs.Sums.{extent_plus}
use Rattle.placed.specs.Tame.{tame}
use Rattle.placed.proofs.Under.{Under}
use Rattle.placed.proofs.Placing.{tame_point}

-- ---- the points of a cell lie less than a cell from its start
three_tenths : Under (ratio 3 10) 1 1
unfolding Ieee.of_int Ieee.div
three_tenths = lit≤ tt

five_tenths : Under (ratio 5 10) 1 1
unfolding Ieee.of_int Ieee.div
five_tenths = lit≤ tt

seven_tenths : Under (ratio 7 10) 1 1
unfolding Ieee.of_int Ieee.div
seven_tenths = lit≤ tt

-- a score, and no refusal
abbrev pub Scored : Finding ℤ → Type 0
Scored f = (z : ℤ) × (f ≡ found z)

-- a sum of scores is a score
both_scored : (a b : Finding ℤ) → Scored a → Scored b → Scored (a ⊞ b)
unfolding ◌⊞◌
both_scored a b p q = (p.0 +ℤ q.0, rw (p.1, q.1))

module _ (pic : List ℕ) (width height : ℕ) (c : Perspective) where
  -- ---- tame
  module _ (size : ℕ) (t : tame size c ≡ true) (most : size ≤ 177) (x y : ℕ) (hx : x < size) (hy : y < size) where
    -- a point of the cell
    point_scored : (r s : Float) → Under r 1 1 → Under s 1 1 → Scored (point_of pic width height c (float (pos x) ⊕ r) (float (pos y) ⊕ s))
    unfolding point_of dark_in
    point_scored r s p q =
        let at = tame_point size c t most x y hx hy r s p q in
        (dark_at pic width height at.0.x at.0.y, rw at.1)

    -- three points on a line of it
    line_scored : (s : Float) → Under s 1 1 → Scored (line_of pic width height c (float (pos x)) (float (pos y) ⊕ s))
    unfolding line_of
    line_scored s q =
        both_scored _ _ (both_scored _ _ (point_scored (ratio 3 10) s three_tenths q) (point_scored (ratio 5 10) s five_tenths q)) (point_scored (ratio 7 10) s seven_tenths q)

    -- its three lines
    cell_scored : Scored (cell_of pic width height c x y)
    unfolding cell_of
    cell_scored =
        both_scored _ _ (both_scored _ _ (line_scored (ratio 3 10) three_tenths) (line_scored (ratio 5 10) five_tenths)) (line_scored (ratio 7 10) seven_tenths)

  -- no point of the cell in column x of line y is unplaced
  pub tame_cell : (size : ℕ) → tame size c ≡ true → (x y : ℕ) → x < size → y < size → size ≤ 177 → Scored (cell_of pic width height c x y)
  tame_cell size t x y hx hy most = cell_scored size t most x y hx hy

  -- ---- any perspective
  -- a pixel counts 1 at most, either way
  darkness_small : (b : Bool) → nat_abs (cond b (negsuc 0) (pos 1)) ≤ 1
  darkness_small true = le_refl 1
  darkness_small false = le_refl 1

  -- and so does a place
  dark_small : (a b : ℤ) → nat_abs (dark_at pic width height a b) ≤ 1
  unfolding dark_at
  dark_small (pos x) (pos y) = go (ltb x width && ltb y height)
    where
      go : (t : Bool) → nat_abs (cond t (darkness (px pic width x y)) (pos 0)) ≤ 1
      go true = darkness_small (eqb (px pic width x y) 0)
      go false = lit≤ tt
  dark_small (pos x) (negsuc y) = lit≤ tt
  dark_small (negsuc x) b = lit≤ tt

  -- and a point that was mapped, or refused
  seen_small : (f : Finding Point) → extent (dark_in pic width height f) ≤ 1
  unfolding dark_in extent
  seen_small (found p) = dark_small p.x p.y
  seen_small (refused n) = lit≤ tt

  -- and a point of the grid
  point_small : (u v : Float) → extent (point_of pic width height c u v) ≤ 1
  unfolding point_of
  point_small u v = seen_small (mapped c u v)

  -- three scores together
  three_small : (a b d : Finding ℤ) (n : ℕ) → extent a ≤ n → extent b ≤ n → extent d ≤ n → extent (a ⊞ b ⊞ d) ≤ n + n + n
  three_small a b d n p q r = let s = extent_plus (a ⊞ b) d in let t = extent_plus a b in omega arith

  -- three points on a line
  line_small : (x v : Float) → extent (line_of pic width height c x v) ≤ 3
  unfolding line_of
  line_small x v = three_small _ _ _ 1 (point_small (x ⊕ ratio 3 10) v) (point_small (x ⊕ ratio 5 10) v) (point_small (x ⊕ ratio 7 10) v)

  -- nine points, each at most 1 from 0
  pub cell_extent : (x y : ℕ) → extent (cell_of pic width height c x y) ≤ 9
  unfolding cell_of
  cell_extent x y =
      three_small _ _ _ 3 (line_small (float (pos x)) (float (pos y) ⊕ ratio 3 10)) (line_small (float (pos x)) (float (pos y) ⊕ ratio 5 10)) (line_small (float (pos x)) (float (pos y) ⊕ ratio 7 10))

  -- the same of the score that is found
  pub cell_most : (x y : ℕ) (z : ℤ) → cell_of pic width height c x y ≡ found z → nat_abs z ≤ 9
  unfolding extent
  cell_most x y z e = subst (λ (f : Finding ℤ). extent f ≤ 9) e (cell_extent x y)
