-- The tests of sides, length, room and seed that operations start with: document 01, refusals 1, 2, 3, 5 and 6. Assumes nothing.
use Rattle.std.specs.Prelude.{ℕ, ◌*◌, ◌≤◌, ◌<◌, ◌≡◌, Bool, not, ◌&&◌, List, [], ◌∷◌, ◌⊎◌, eqb, ltb, leb}
use Rattle.refusals.specs.Limits.{longest_side}
use Rattle.refusals.specs.First.{Test, ◌when◌}
use Rattle.refusals.specs.declared.Refusal.TheVariants.{Size, Length, Room, Outside, White}

-- n is a side that a picture may have
unfoldable pub side : ℕ → Bool
side n = ltb 0 n && leb n longest_side

-- 1: width or height is 0 or above 800
abbrev pub size_test : ℕ → ℕ → Test
size_test width height = Size when not (side width && side height)

-- the same in words: width or height is 0 or above 800
abbrev pub Unsized : ℕ → ℕ → Type 0
Unsized width height = (width ≡ 0) ⊎ (longest_side < width) ⊎ (height ≡ 0) ⊎ (longest_side < height)

-- 2: the picture's length is not width x height
abbrev pub length_test : ℕ → ℕ → ℕ → Test
length_test width height len = Length when not (eqb len (width * height))

-- 3: what the caller lends is shorter than width x height
abbrev pub room_test : ℕ → ℕ → ℕ → Test
room_test width height lent = Room when ltb lent (width * height)

-- 5: the seed is outside the picture
abbrev pub outside_test : ℕ → ℕ → ℕ → ℕ → Test
outside_test width height x y = Outside when not (ltb x width && ltb y height)

-- 6: the seed pixel is white
abbrev pub white_test : ℕ → Test
white_test byte = White when eqb byte 0

-- what every operation on a picture tests first
abbrev pub side_tests : ℕ → ℕ → ℕ → List Test
side_tests width height len = size_test width height ∷ length_test width height len ∷ []

-- and with room that the caller lends
abbrev pub room_tests : ℕ → ℕ → ℕ → ℕ → List Test
room_tests width height len lent = size_test width height ∷ length_test width height len ∷ room_test width height lent ∷ []

-- and with a seed
abbrev pub seed_tests : ℕ → ℕ → ℕ → ℕ → ℕ → ℕ → List Test
seed_tests width height len lent x y = size_test width height ∷ length_test width height len ∷ room_test width height lent ∷ outside_test width height x y ∷ []

-- a picture of len bytes has these sides, and they are allowed
pub record Sized (width height len : ℕ) : Type 0 where
  pub some_width : 0 < width
  pub wide : width ≤ longest_side
  pub some_height : 0 < height
  pub tall : height ≤ longest_side
  pub whole : len ≡ width * height

-- such a picture, with room for an entry a pixel
pub record Roomy (width height len lent : ℕ) : Type 0 where
  pub sized : Sized width height len
  pub room : width * height ≤ lent

-- such a picture and room, with a pixel of it as the seed
pub record Seeded (width height len lent x y : ℕ) : Type 0 where
  pub sized : Sized width height len
  pub room : width * height ≤ lent
  pub in_x : x < width
  pub in_y : y < height
