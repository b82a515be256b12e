-- Where every cell of a grid is placed, each part of the grid has a score, and none is further from 0 than 9 for each of its cells. Assumes nothing.
use Prim.Native.Nat.{ℕ, zero, suc, ◌+◌, ◌-◌, ◌*◌, ◌≤◌, ◌<◌}
use native.Mathlib.Nat.{zero-mul, suc-mul}
use native.Mathlib.Omega.{arith}
use mathlib.Core.Path.{◌≡◌}
use mathlib.Core.List.{List, [], ◌∷◌, ◌++◌}
use lib.IntN.{ℤ}
use Rattle.refusals.specs.Finding.{Finding}
use Rattle.version_db.specs.AnnexE.{version_of, count_of, position_of}
use Rattle.version_db.proofs.Inside.{inside, from_six}
use Rattle.fitness.specs.Expected.{Shade, dark, light, Expected, cell, each, alternating, crossing, timing, sides, ring, mark, pattern, edge, edges, column, columns}
use Rattle.fitness.specs.Total.{total}
use Rattle.fitness.specs.Fitness.{GridSize}
use Rattle.fitness.proofs.Totals.{total_append}
use Rattle.beyond.specs.Most.{most_lines, most_edges, most_columns}
use Rattle.beyond.proofs.Reach.{Reach, reach_nothing, reach_plus, reach_weighed}

module _ (seen : ℕ → ℕ → Finding ℤ) where
  -- the cells of a list have a score together, no further from 0 than a bound
  pub record Within (most : ℕ) (es : List Expected) : Type 0 where
    pub reach : Reach most (total seen es)

  -- no cells
  none : Within 0 []
  unfolding total
  none = record { reach = reach_nothing }

  -- two lists of cells
  both : {xs ys : List Expected} {a b : ℕ} → Within a xs → Within b ys → Within (a + b) (xs ++ ys)
  both {xs} {ys} p q = record { reach = rw (total_append seen xs ys) (reach_plus p.reach q.reach) }

  -- so many lists of cells
  all : (f : ℕ → List Expected) (k n : ℕ) → ((i : ℕ) → i < n → Within k (f i)) → Within (n * k) (each n f)
  all f k zero p = rw zero-mul none
  all f k (suc n) p = rw suc-mul (both (all f k n (λ i h. p i (omega arith))) (p n (omega arith)))

module _ (seen : ℕ → ℕ → Finding ℤ) (size : ℕ) (grid : GridSize size) (placed : (x y : ℕ) → x < size → y < size → Reach 9 (seen x y)) where
  -- one cell more
  with_cell : {es : List Expected} {n : ℕ} (s : Shade) (x y : ℕ) → x < size → y < size → Within seen n es → Within seen (9 + n) (cell s x y ∷ es)
  unfolding total
  with_cell s x y hx hy p = record { reach = reach_plus (reach_weighed s (placed x y hx hy)) p.reach }

  -- a place of both timing lines
  crossing_within : (k : ℕ) → k < size → Within seen 18 (crossing k)
  crossing_within k h = with_cell (alternating k) k 6 h (omega arith) (with_cell (alternating k) 6 k (omega arith) h (none seen))

  -- the timing lines
  pub timing_within : Within seen (most_lines size) (timing size)
  unfolding timing
  timing_within = all seen (λ i. crossing (7 + i)) 18 (size - 14) (λ i h. crossing_within (7 + i) (omega arith))

  -- a ring that lies inside the grid
  module _ (x y r : ℕ) (left : r ≤ x) (right : x + r < size) (above : r ≤ y) (below : y + r < size) where
    -- a cell on each of its sides
    sides_within : (s : Shade) (i : ℕ) → i < 2 * r → Within seen 36 (sides s x y r i)
    sides_within s i h =
        with_cell s (x - r + i) (y - r) (omega arith) (omega arith)
        (with_cell s (x - r) (y + r - i) (omega arith) (omega arith)
        (with_cell s (x + r) (y - r + i) (omega arith) (omega arith)
        (with_cell s (x + r - i) (y + r) (omega arith) (omega arith) (none seen))))

    -- all of its cells
    ring_within : (s : Shade) → Within seen (2 * r * 36) (ring s x y r)
    unfolding ring
    ring_within s = all seen (sides s x y r) 36 (2 * r) (sides_within s)

  -- a mark inside the grid
  pub mark_within : (x y : ℕ) → x + 7 ≤ size → y + 7 ≤ size → Within seen 441 (mark x y)
  unfolding mark
  mark_within x y hx hy =
      with_cell dark (x + 3) (y + 3) (omega arith) (omega arith)
      (both seen (both seen
      (ring_within (x + 3) (y + 3) 1 (omega arith) (omega arith) (omega arith) (omega arith) dark)
      (ring_within (x + 3) (y + 3) 2 (omega arith) (omega arith) (omega arith) (omega arith) light))
      (ring_within (x + 3) (y + 3) 3 (omega arith) (omega arith) (omega arith) (omega arith) dark))

  -- an alignment pattern inside the grid
  pattern_within : (x y : ℕ) → 2 ≤ x → x + 2 < size → 2 ≤ y → y + 2 < size → Within seen 225 (pattern x y)
  unfolding pattern
  pattern_within x y left right above below =
      with_cell dark x y (omega arith) (omega arith)
      (both seen
      (ring_within x y 1 (omega arith) (omega arith) (omega arith) (omega arith) light)
      (ring_within x y 2 left right above below dark))

  -- an alignment position but the first has room for a pattern
  module _ (v k : ℕ) (version : v ≡ version_of size) (there : 1 + k < count_of v) where
    -- before it
    at_least : 2 ≤ position_of v (1 + k)
    at_least = omega (arith, from_six v (1 + k) (omega arith) there)

    -- and after it
    at_most : position_of v (1 + k) + 2 < size
    at_most = omega (arith, inside v (1 + k))

  module _ (v : ℕ) (version : v ≡ version_of size) where
    -- the two patterns on the timing lines at a position
    edge_within : (i : ℕ) → i < count_of v - 2 → Within seen 450 (edge (position_of v (1 + i)))
    edge_within i h =
        let low = at_least v i version (omega arith) in
        let high = at_most v i version (omega arith) in
        both seen (pattern_within 6 (position_of v (1 + i)) (omega arith) (omega arith) low high) (pattern_within (position_of v (1 + i)) 6 low high (omega arith) (omega arith))

    -- all patterns on the timing lines
    pub edges_within : Within seen (most_edges (count_of v)) (edges v)
    unfolding edges
    edges_within = all seen (λ i. edge (position_of v (1 + i))) 450 (count_of v - 2) edge_within

    -- the patterns of a column
    column_within : (x : ℕ) → 2 ≤ x → x + 2 < size → Within seen ((count_of v - 1) * 225) (column v x)
    unfolding column
    column_within x left right =
        all seen (λ j. pattern x (position_of v (1 + j))) 225 (count_of v - 1)
        (λ j h. pattern_within x (position_of v (1 + j)) left right (at_least v j version (omega arith)) (at_most v j version (omega arith)))

    -- the patterns of all columns
    pub columns_within : Within seen (most_columns (count_of v)) (columns v)
    unfolding columns
    columns_within =
        all seen (λ i. column v (position_of v (1 + i))) ((count_of v - 1) * 225) (count_of v - 1)
        (λ i h. column_within (position_of v (1 + i)) (at_least v i version (omega arith)) (at_most v i version (omega arith)))
