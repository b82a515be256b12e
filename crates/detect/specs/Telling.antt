-- What detect tells: document 01, "It finds the stones (count ..) and the grids (count ..)", and how that stands in an array of 31. Definitions alone.
use Rattle.std.specs.Prelude.{ℕ, List, take, Result, Ok, Err}
use Rattle.refusals.specs.Finding.{Finding, found, refused, refused_by}
use Rattle.refusals.specs.declared.Refusal.{Refusal}
use Rattle.laid.specs.Laid.{Laid}
use Rattle.grids.specs.declared.SkewedGridLocation.{SkewedGridLocation}
use Rattle.bounds.specs.declared.Grid.{Grid}
use Rattle.groupings.specs.Held.{most_groups}
use Rattle.bounded.specs.Held.{no_grid}
use Rattle.bounded.specs.All.{bounded_all}
use Rattle.detect.specs.declared.Findings.{Findings}

-- how many stones a picture has, and its grids with their bounds
pub record Telling : Type 0 where
  pub stones : ℕ
  pub grids : List Grid

-- so many stones and these grids, or what refuses them
unfoldable pub tells : ℕ → Finding (List Grid) → Finding Telling
tells count (found grids) = found (record { stones = count; grids = grids })
tells count (refused n) = refused n

-- the same of grids that are located: their bounds are taken when all are
unfoldable pub tells_located : ℕ → Finding (List SkewedGridLocation) → Finding Telling
tells_located count (found locations) = tells count (bounded_all locations)
tells_located count (refused n) = refused n

-- what stands in findings, or what refuses them
abbrev pub outcome : Result Findings Refusal → Finding Telling
outcome (Ok s) = found (record { stones = s.stones; grids = take s.n s.grids })
outcome (Err why) = refused_by why

-- findings leave nothing to chance: blanks alone past the grids
abbrev pub LaidOut : Result Findings Refusal → Type 0
LaidOut (Ok s) = Laid most_groups no_grid (Ok tt) s.n s.grids
LaidOut (Err why) = Unit {0}
