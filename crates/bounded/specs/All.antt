-- The bounds of all located grids: document 01, detect, "bounds after it" (the final pass). Definitions alone.
use Rattle.std.specs.Prelude.{List, [], ◌∷◌}
use Rattle.refusals.specs.Finding.{Finding, found, refused}
use Rattle.bounds.specs.Bounds.{bounded_of}
use Rattle.bounds.specs.declared.Grid.{Grid}
use Rattle.grids.specs.declared.SkewedGridLocation.{SkewedGridLocation}

-- a grid, and those after it; the first refusal is told
unfoldable pub joined : Finding Grid → Finding (List Grid) → Finding (List Grid)
joined (found g) (found more) = found (g ∷ more)
joined (found g) (refused n) = refused n
joined (refused n) more = refused n

-- each located grid with its bounds; where one of them lies nowhere, all are refused
unfoldable pub bounded_all : List SkewedGridLocation → Finding (List Grid)
bounded_all [] = found []
bounded_all (location ∷ more) = joined (bounded_of location) (bounded_all more)
