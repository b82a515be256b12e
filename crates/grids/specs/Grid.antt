-- A located grid: document 01, "Groups and grids"; which corners go where is taken from the Rust. Definitions alone.
use Rattle.std.specs.Prelude.{ℕ, ◌-◌, ◌≤◌, ◌≡◌, cond, List, [], ◌∷◌, leb, pos, Float, Option, Some, None, Result, Ok, Err}
use Rattle.refusals.specs.declared.Refusal.{Refusal}
use Rattle.refusals.specs.Finding.{Finding, found, refused, refused_by}
use Rattle.floats.specs.Float64.{float}
use Rattle.points.specs.declared.Point.{Point}
use Rattle.geometry.specs.Create.{sight_of}
use Rattle.geometry.specs.declared.Perspective.{Perspective}
use Rattle.geometry.specs.declared.Sight.{Sight}
use Rattle.geometry.specs.declared.Sight.TheVariants.{Made, Flat}
use Rattle.version_db.specs.AnnexE.{size_of, version_of}
use Rattle.refine.specs.Refine.{refined_of}
use Rattle.refine.specs.declared.Refined.{Refined}
use Rattle.grids.specs.declared.SkewedGridLocation.{SkewedGridLocation}

-- what a group comes to, in document 01's terms: the grids that it gives, one or none, or a refusal's number
abbrev pub meaning : Result (Option SkewedGridLocation) Refusal → Finding (List SkewedGridLocation)
meaning (Ok (Some g)) = found (g ∷ [])
meaning (Ok None) = found []
meaning (Err why) = refused_by why

-- a grid has so many cells along a side, in some version, which need not be one of the standard's forty
pub record Modules (size : ℕ) : Type 0 where
  pub version : ℕ
  pub is : size ≡ size_of version
  pub few : version ≤ 10000

-- the grid with this size and the perspective that refinement arrived at
unfoldable pub grid_of : ℕ → Finding Refined → Finding (List SkewedGridLocation)
grid_of size (found best) = found (record { size = size; c = best.c } ∷ [])
grid_of size (refused n) = refused n

module _ (pic : List ℕ) (width height size : ℕ) where
  -- the grid that refinement arrives at from c; 13 where one of its points lies nowhere
  unfoldable pub refined_grid : Perspective → Finding (List SkewedGridLocation)
  refined_grid c = grid_of size (refined_of pic width height size c)

  -- no grid where the corners are flat
  unfoldable pub seen_grid : Sight → Finding (List SkewedGridLocation)
  seen_grid (Made c) = refined_grid c
  seen_grid Flat = found []

  -- the corners lie seven cells apart from the sides, so they span a square of size - 7
  abbrev pub span : Float
  span = float (pos (size - 7))

  -- no grid where there is no such version: there are 41 with entry 0
  unfoldable pub set_up : Point → Point → Point → Point → Finding (List SkewedGridLocation)
  set_up p0 p1 p2 p3 = cond (leb 41 (version_of size)) (found []) (seen_grid (sight_of p0 p1 p2 p3 span span))
