-- Which of the points seen is kept: the first of those with the highest score. Taken from the Rust (`update` of its three finders). Assumes nothing.
use Rattle.std.specs.Prelude.{cond, ℤ}
use Rattle.std.specs.Int.Signed.{lt_z}
use Rattle.points.specs.declared.Point.{Point}
use Rattle.corners.specs.declared.places.Best.{Best}

-- p, where it is worth more than the best so far
unfoldable pub raised : Best → Point → ℤ → Best
raised b p worth = cond (lt_z b.score worth) (record { place = p; score = worth }) b

-- p, with its score
abbrev pub scored : (Point → ℤ) → Point → Best
scored score p = record { place = p; score = score p }
