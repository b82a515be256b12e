-- The timing scan: how often the bytes along a line change. Taken from the Rust, `timing_scan`. Definitions alone.
use Rattle.std.specs.Prelude.{ℕ, ◌+◌, cond, List, [], ◌∷◌, map, eqb}
use Rattle.points.specs.declared.Point.{Point}
use Rattle.pixels.specs.Nearest.{shown_at}
use Rattle.scans.specs.Scan.{scan_of}
use Rattle.scans.specs.Points.{points}

-- a byte that differs from the one before it is one change; bytes are compared, not black and white, so that paint counts
abbrev pub change : ℕ → ℕ → ℕ
change a b = cond (eqb a b) 0 1

-- the changes of a list that comes after the byte a
unfoldable pub changes_after : ℕ → List ℕ → ℕ
changes_after a [] = 0
changes_after a (b ∷ bs) = change a b + changes_after b bs

-- the changes of a list: the places where a byte differs from the one before it
unfoldable pub changes : List ℕ → ℕ
changes [] = 0
changes (b ∷ bs) = changes_after b bs

-- the bytes that a picture shows along the scan from one point to another; beside it, those of the nearest pixels
unfoldable pub bytes_along : List ℕ → ℕ → ℕ → Point → Point → List ℕ
bytes_along pic width height from to = map (shown_at pic width height) (points (scan_of from to))
