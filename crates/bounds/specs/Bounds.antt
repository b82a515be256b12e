-- A grid's bounds, taken from the Rust, `detect_grids`; document 01: bounds "only meet 13". Definitions alone.
use Rattle.std.specs.Prelude.{ℕ, false, pos, Float, Option, Some, None}
use Rattle.std.specs.Float.{fin}
use Rattle.refusals.specs.Finding.{Finding, found, refused, refused_by}
use Rattle.refusals.specs.declared.Refusal.TheVariants as refusal
use Rattle.floats.specs.Float64.{◌⊕◌, float, one}
use Rattle.points.specs.declared.Point.{Point}
use Rattle.geometry.specs.Map.{mapped}
use Rattle.grids.specs.declared.SkewedGridLocation.{SkewedGridLocation}
use Rattle.bounds.specs.declared.Grid.{Grid}

-- an answer in document 01's terms: a grid with its bounds, or 13
abbrev pub meaning : Option Grid → Finding Grid
meaning (Some g) = found g
meaning None = refused_by refusal.Unplaced

-- a located grid with four bounds; where one of them is refused, so is the grid
unfoldable pub with_bounds : SkewedGridLocation → Finding Point → Finding Point → Finding Point → Finding Point → Finding Grid
with_bounds g (found p0) (found p1) (found p2) (found p3) = found (record { size = g.size; c = g.c; bound0 = p0; bound1 = p1; bound2 = p2; bound3 = p3 })
with_bounds g (found p0) (found p1) (found p2) (refused n) = refused n
with_bounds g (found p0) (found p1) (refused n) b3 = refused n
with_bounds g (found p0) (refused n) b2 b3 = refused n
with_bounds g (refused n) b1 b2 b3 = refused n

abbrev pub nought : Float
nought = fin false 0 (pos 0)

-- one more than the cells along a side, as in the Rust
abbrev pub beyond : ℕ → Float
beyond size = float (pos size) ⊕ one

-- the bounds (0, 0), (s + 1, 0), (s + 1, s + 1) and (0, s + 1) of a located grid
unfoldable pub bounded_of : SkewedGridLocation → Finding Grid
bounded_of g =
    let s = beyond g.size in
    with_bounds g (mapped g.c nought nought) (mapped g.c s nought) (mapped g.c s s) (mapped g.c nought s)
