-- Lists that stand in arrays. Assumes nothing.
use Rattle.std.specs.Prelude.{ℕ, ◌≡◌, List, length, take}

-- an array with so much room holds a list in its first n places
pub record Holds {A : Type 0} (room : ℕ) (all : List A) (n : ℕ) (list : List A) : Type 0 where
  pub room_is : length all ≡ room
  pub count : n ≡ length list
  pub first : take n all ≡ list
