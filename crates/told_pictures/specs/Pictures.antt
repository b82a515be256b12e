-- What the calls on pictures answer. Assumes nothing.
use Rattle.std.specs.Prelude.{ℕ, ◌≡◌, List}
use Rattle.refusals.specs.Finding.{Finding, found, refused}
use Rattle.prepare.specs.Prepared.{prepare_of, picture_after}

-- the number of an operation that has nothing to tell beside its refusals: 0, or the refusal's
unfoldable pub verdict_number : Finding (Unit {0}) → ℕ
verdict_number (found u) = 0
verdict_number (refused n) = n

-- a call that thresholds: its number, and what the picture holds after it
pub record Thresholds (width height : ℕ) (pic : List ℕ) (number : ℕ) (left : List ℕ) : Type 0 where
  pub number_is : number ≡ verdict_number (prepare_of width height pic)
  pub picture_is : left ≡ picture_after (prepare_of width height pic) width height pic
