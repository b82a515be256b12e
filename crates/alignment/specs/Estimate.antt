-- The size that the alignment pattern is taken to have: document 01, refusals 13 and 12; the two corners and the area are taken from the Rust (`find_alignment_pattern`). Definitions alone.
use Rattle.std.specs.Prelude.{ℕ, [], ◌∷◌, ltb, nat_abs, neg_ℤ, ◌+ℤ◌, ◌-ℤ◌, ◌*ℤ◌, Result, Ok, Err}
use Rattle.refusals.specs.declared.Refusal.{Refusal}
use Rattle.refusals.specs.Limits.{farthest}
use Rattle.refusals.specs.Finding.{Finding, found, refused, refused_by}
use Rattle.refusals.specs.First.{Test, ◌when◌, first}
use Rattle.refusals.specs.declared.Refusal.TheVariants as refusal
use Rattle.points.specs.declared.Point.{Point}
use Rattle.floats.specs.Float64.{◌⊕◌, one}
use Rattle.geometry.specs.Unmap.{unmapped}
use Rattle.geometry.specs.declared.Perspective.{Perspective}
use Rattle.stated.specs.Stated.{stated_at}

-- an answer in document 01's terms: a number of pixels, or a refusal's number
abbrev pub meaning : Result ℕ Refusal → Finding ℕ
meaning (Ok n) = found n
meaning (Err why) = refused_by why

-- the area of the parallelogram that the ways from the seed to a and to c span; the formula is the Rust's
unfoldable pub area_of : Point → Point → Point → ℕ
area_of seed a c = nat_abs ((a.x -ℤ seed.x) *ℤ neg_ℤ (c.y -ℤ seed.y) +ℤ (a.y -ℤ seed.y) *ℤ (c.x -ℤ seed.x))

-- 12: "the alignment size estimate exceeds 10,000"
abbrev pub large_test : ℕ → Test
large_test size = refusal.Far when ltb farthest size

-- the area is the estimate, unless it is too large
unfoldable pub estimate_by : Point → Point → Point → Finding ℕ
estimate_by seed a c = first (large_test (area_of seed a c) ∷ []) (found (area_of seed a c))

-- the corners are judged in order, and the first refusal stands
unfoldable pub estimate_between : Point → Finding Point → Finding Point → Finding ℕ
estimate_between seed (found a) (found c) = estimate_by seed a c
estimate_between seed (found a) (refused n) = refused n
estimate_between seed (refused n) end = refused n

-- the corner that lies one module down from the seed, as the first stone's perspective has it
unfoldable pub corner_down : Perspective → Point → Finding Point
corner_down c0 seed = let p = unmapped c0 seed in stated_at c0 p.u (p.v ⊕ one)

-- the corner that lies one module to the right, as the third stone's perspective has it
unfoldable pub corner_right : Perspective → Point → Finding Point
corner_right c2 seed = let p = unmapped c2 seed in stated_at c2 (p.u ⊕ one) p.v

-- the estimate from the seed, by the perspectives of the first and the third stone
unfoldable pub estimate_of : Perspective → Perspective → Point → Finding ℕ
estimate_of c0 c2 seed = estimate_between seed (corner_down c0 seed) (corner_right c2 seed)
