-- The ratio test of a finder mark: document 01, "Marks". Assumes nothing.
use Rattle.std.specs.Prelude.{ℕ, ◌*◌, ◌/◌, Bool, ◌&&◌, ltb}
use Rattle.refusals.specs.Limits.{longest_side}

-- no picture has more pixels
abbrev pub most_pixels : ℕ
most_pixels = longest_side * longest_side

-- the stone's size in hundredths of the ring's
unfoldable pub ratio : ℕ → ℕ → ℕ
ratio stone ring = stone * 100 / ring

-- 10 < stone x 100 / ring < 70
unfoldable pub ring_like : ℕ → ℕ → Bool
ring_like stone ring = ltb 10 (ratio stone ring) && ltb (ratio stone ring) 70
