-- Points that a caller hands over: where they stand in a lent slice, and whether they lie too far out. Assumes nothing.
use Rattle.std.specs.Prelude.{ℕ, ◌-◌, List, Bool, not, ◌&&◌, ℤ, pos, neg_ℤ, get_or}
use Rattle.std.specs.Int.Signed.{le_z}
use Rattle.refusals.specs.First.{Test, ◌when◌}
use Rattle.refusals.specs.Limits.{longest_side, farthest}
use Rattle.refusals.specs.declared.Refusal.TheVariants as refusal
use Rattle.points.specs.declared.Point.{Point}

-- the point whose coordinates stand at the places i and j
unfoldable pub point_at : List ℤ → ℕ → ℕ → Point
point_at ns i j = record { x = get_or ns i (pos 0); y = get_or ns j (pos 0) }

-- z is neither below low nor above high
unfoldable pub between : ℤ → ℤ → ℤ → Bool
between low z high = le_z low z && le_z z high

-- a coordinate of p is not from low to high
unfoldable pub leaves : Point → ℤ → ℤ → Bool
leaves p low high = not (between low p.x high && between low p.y high)

-- 12: a point that is no pixel of any picture
abbrev pub no_pixel : Point → Test
no_pixel p = refusal.Far when leaves p (pos 0) (pos (longest_side - 1))

-- 12: a point that is further out than a stated point may be
abbrev pub too_far : Point → Test
too_far p = refusal.Far when leaves p (neg_ℤ (pos farthest)) (pos farthest)
