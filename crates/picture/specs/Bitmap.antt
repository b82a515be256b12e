-- A bitmap, and the tests that accept one: document 01, refusal 4. Assumes nothing.
use Rattle.std.specs.Prelude.{ℕ, ◌≡◌, Bool, true, not, ◌&&◌, List, [], ◌∷◌, leb, length}
use Rattle.refusals.specs.First.{Test, ◌when◌}
use Rattle.refusals.specs.declared.Refusal.TheVariants.{Byte}
use Rattle.picture.specs.Sides.{size_test, length_test, Sized}

-- no byte is above 1
unfoldable pub bitmap : List ℕ → Bool
bitmap [] = true
bitmap (b ∷ rest) = leb b 1 && bitmap rest

-- 4: the bitmap holds a byte above 1
abbrev pub byte_test : List ℕ → Test
byte_test pic = Byte when not (bitmap pic)

-- what accepting a bitmap tests: 1, 2, 4
abbrev pub accept_tests : List ℕ → ℕ → ℕ → List Test
accept_tests pic width height = size_test width height ∷ length_test width height (length pic) ∷ byte_test pic ∷ []

-- a bitmap of these sides, as accept takes it
pub record Accepted (pic : List ℕ) (width height : ℕ) : Type 0 where
  pub sized : Sized width height (length pic)
  pub bits : bitmap pic ≡ true
