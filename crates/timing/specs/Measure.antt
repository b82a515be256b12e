-- Measuring the timing pattern between three stones: document 01, refusals 12, 13 and 14; the ends are taken from the Rust, `measure_timing_pattern`. Definitions alone.
use Rattle.std.specs.Prelude.{ℕ, max, ◌&&◌, List, [], ◌∷◌, eqb, Result, Ok, Err}
use Rattle.refusals.specs.declared.Refusal.{Refusal}
use Rattle.refusals.specs.Finding.{Finding, found, refused, refused_by}
use Rattle.refusals.specs.First.{Test, ◌when◌, first}
use Rattle.refusals.specs.declared.Refusal.TheVariants as refusal
use Rattle.points.specs.declared.Point.{Point}
use Rattle.geometry.specs.declared.Perspective.{Perspective}
use Rattle.stated.specs.Stated.{stated_at}
use Rattle.cells.specs.Cell.{middle}
use Rattle.timing.specs.Changes.{changes, bytes_along}
use Rattle.timing.specs.Counted.{grid_size}

-- an answer in document 01's terms: a grid size, or a refusal's number
abbrev pub meaning : Result ℕ Refusal → Finding ℕ
meaning (Ok n) = found n
meaning (Err why) = refused_by why

-- 14: both timing scans count 0
abbrev pub timing_test : ℕ → ℕ → Test
timing_test hscan vscan = refusal.Timing when (eqb hscan 0 && eqb vscan 0)

-- the size that two scans tell is that of the larger count
unfoldable pub size_by : ℕ → ℕ → Finding ℕ
size_by hscan vscan = first (timing_test hscan vscan ∷ []) (found (grid_size (max hscan vscan)))

module _ (pic : List ℕ) (width height : ℕ) where
  -- one scan goes from end 1 to end 2, and one from end 1 to end 0
  unfoldable pub size_between : Point → Point → Point → Finding ℕ
  size_between p0 p1 p2 = size_by (changes (bytes_along pic width height p1 p2)) (changes (bytes_along pic width height p1 p0))

  -- the ends are judged in order, and the first refusal stands
  unfoldable pub measured_between : Finding Point → Finding Point → Finding Point → Finding ℕ
  measured_between (found p0) (found p1) (found p2) = size_between p0 p1 p2
  measured_between (found p0) (found p1) (refused n) = refused n
  measured_between (found p0) (refused n) end2 = refused n
  measured_between (refused n) end1 end2 = refused n

  -- the ends: the middles of the modules (6, 0), (6, 6) and (0, 6) of the stones 0, 1 and 2
  unfoldable pub measured_of : Perspective → Perspective → Perspective → Finding ℕ
  measured_of c0 c1 c2 = measured_between (stated_at c0 (middle 6) (middle 0)) (stated_at c1 (middle 6) (middle 6)) (stated_at c2 (middle 0) (middle 6))
