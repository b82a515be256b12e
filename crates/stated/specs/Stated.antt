-- Stated points: document 01, "12 is tested for capstone centres, the three timing ends, the intersection, and the two mapped points of the size estimate", and 13 comes before 12 at one point. Assumes nothing.
use Rattle.std.specs.Prelude.{Bool, not, ◌&&◌, [], ◌∷◌, leb, nat_abs, Float, Result, Ok, Err}
use Rattle.refusals.specs.declared.Refusal.{Refusal}
use Rattle.refusals.specs.Limits.{farthest}
use Rattle.refusals.specs.Finding.{Finding, found, refused, refused_by}
use Rattle.refusals.specs.First.{Test, ◌when◌, first}
use Rattle.refusals.specs.declared.Refusal.TheVariants as refusal
use Rattle.points.specs.declared.Point.{Point}
use Rattle.geometry.specs.Map.{mapped}
use Rattle.geometry.specs.declared.Perspective.{Perspective}

-- an answer in document 01's terms: a point, or a refusal's number
abbrev pub meaning : Result Point Refusal → Finding Point
meaning (Ok p) = found p
meaning (Err why) = refused_by why

-- neither coordinate is further out than 10,000
unfoldable pub near : Point → Bool
near p = leb (nat_abs p.x) farthest && leb (nat_abs p.y) farthest

-- 12: a stated point leaves -10,000..10,000
abbrev pub far_test : Point → Test
far_test p = refusal.Far when not (near p)

-- a point, or 12
unfoldable pub judged : Point → Finding Point
judged p = first (far_test p ∷ []) (found p)

-- 13 before 12: a point that lies at no place is refused before it is judged
unfoldable pub stated : Finding Point → Finding Point
stated (found p) = judged p
stated (refused n) = refused n

-- the grid's point (u, v), stated
abbrev pub stated_at : Perspective → Float → Float → Finding Point
stated_at c u v = stated (mapped c u v)
