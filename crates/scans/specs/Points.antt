-- The points that a scan yields, step by step until it is done. Assumes nothing.
use Rattle.std.specs.Prelude.{ℕ, zero, suc, ◌+◌, ◌-◌, List, [], ◌∷◌, Option, Some, None}
use Rattle.points.specs.declared.Point.{Point}
use Rattle.scans.specs.declared.BresenhamScan.{BresenhamScan}
use Rattle.scans.specs.Scan.{step_of}

-- none after `None`; else the point that was seen, and those of the scan that is left
unfoldable pub after : (BresenhamScan → List Point) → Option Point × BresenhamScan → List Point
after f (None, s) = []
after f (Some p, s) = p ∷ f s

-- the points of k steps
unfoldable pub points_of : ℕ → BresenhamScan → List Point
unfolding after
points_of zero s = []
points_of (suc k) s = after (points_of k) (step_of s)

-- the points of all steps: the scan is done when i has passed d
unfoldable pub points : BresenhamScan → List Point
points s = points_of (s.d + 1 - s.i) s
