-- What a call that claims a piece answers. Assumes nothing.
use Rattle.std.specs.Prelude.{ℕ, ◌≤◌, ◌<◌, ◌≡◌, List, [], ◌∷◌, length}
use Rattle.refusals.specs.Finding.{Finding, found, refused, refused_by}
use Rattle.refusals.specs.declared.Refusal.TheVariants.{Room}
use Rattle.fill.specs.declared.paint.Counts.{Counts}
use Rattle.claim.specs.Outcome.{Outcome}
use Rattle.told.specs.Answer.{Values, these, Told}

-- rows met, pixels painted and entries pushed, or a refusal's number
unfoldable pub count_values : Finding Counts → Finding (Values ℕ)
count_values (found n) = found (these (n.rows ∷ n.pixels ∷ n.pushes ∷ []))
count_values (refused n) = refused n

-- the call leaves the picture pic', returns a number, and leaves `after` where it was lent `before` for the counts
pub data Claims (pic : List ℕ) (width height lent x y target : ℕ) (pic' before : List ℕ) (number : ℕ) (after : List ℕ) : Type 0 where
  -- with no places for the counts nothing is claimed
  short : length before < 3 → Told (refused_by Room) before number after → pic' ≡ pic → Claims pic width height lent x y target pic' before number after
  -- else the claim's outcome is told
  claims : 3 ≤ length before → (answer : Finding Counts) → Outcome pic width height lent x y target pic' answer → Told (count_values answer) before number after → Claims pic width height lent x y target pic' before number after
