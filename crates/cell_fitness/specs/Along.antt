-- A rounded coordinate as a place along a side of the picture, written as one number, and what the picture shows at two of them. Definitions alone.
use Rattle.std.specs.Prelude.{ℕ, ◌+◌, ◌^◌, ◌&&◌, ◌||◌, cond, List, ltb, ℤ, pos, negsuc, Option, Some, None}
use Rattle.refusals.specs.Finding.{Finding, found, refused_by}
use Rattle.refusals.specs.declared.Refusal.TheVariants as refusal
use Rattle.pieces.specs.Picture.{px}
use Rattle.cell_fitness.specs.Seen.{darkness}

-- the coordinate itself where it is not below 0; beside every picture where it is, and one further where it is none
unfoldable pub along : Option ℤ → ℕ
along (Some (pos n)) = n
along (Some (negsuc n)) = 2 ^ 31
along None = 2 ^ 31 + 1

-- two places of which no pixel has both: that counts 0, and 13 where either is no coordinate
unfoldable pub beside_at : ℕ → ℕ → Finding ℤ
beside_at x y = cond (ltb (2 ^ 31) x || ltb (2 ^ 31) y) (refused_by refusal.Unplaced) (found (pos 0))

-- the pixel at two places, where there is one
unfoldable pub seen_at : List ℕ → ℕ → ℕ → ℕ → ℕ → Finding ℤ
seen_at pic width height x y = cond (ltb x width && ltb y height) (found (darkness (px pic width x y))) (beside_at x y)
