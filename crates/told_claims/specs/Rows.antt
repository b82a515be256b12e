-- The rows of a piece as numbers, and what a call that lists them answers. Assumes nothing.
use Rattle.std.specs.Prelude.{ℕ, ◌*◌, ◌≤◌, ◌<◌, ◌⊎◌, ◌≡◌, List, [], ◌∷◌, ◌++◌, length, drop}
use Rattle.refusals.specs.Finding.{found, refused, refused_by}
use Rattle.refusals.specs.First.{first, sound}
use Rattle.refusals.specs.declared.Refusal.TheVariants.{Room}
use Rattle.pieces.specs.declared.Row.{Row}
use Rattle.pieces.specs.Paint.{Paints}
use Rattle.fill.specs.Order.{rows_met}
use Rattle.fill.specs.Fold.{folded}
use Rattle.claim.specs.Tests.{claim_tests}
use Rattle.told.specs.Answer.{these, Told}

-- one more row: its left and its right end and its line
abbrev pub listed : List ℕ → Row → List ℕ
listed ns r = ns ++ (r.left ∷ r.right ∷ r.y ∷ [])

-- the rows that a fill of the piece of (x, y) with t meets, in order
unfoldable pub row_numbers : List ℕ → ℕ → ℕ → ℕ → ℕ → ℕ → List ℕ
row_numbers pic width height x y t = folded listed [] (rows_met pic width height x y t)

-- a fill that lists: it paints its piece, and puts the rows' numbers, n of them, before the rest of what it was lent
pub record Listed (pic : List ℕ) (width height x y t : ℕ) (pic' before : List ℕ) (n : ℕ) (after : List ℕ) : Type 0 where
  pub paints : Paints pic width height x y t pic'
  pub numbers : n ≡ length (row_numbers pic width height x y t)
  pub after_is : after ≡ row_numbers pic width height x y t ++ drop (length (row_numbers pic width height x y t)) before

-- a call that lists leaves the picture pic', returns a number, and leaves rows' and count' where it was lent `rows` and `count`
pub data Lists (pic : List ℕ) (width height lent x y target : ℕ) (pic' rows rows' count count' : List ℕ) (number : ℕ) : Type 0 where
  -- it refuses what a claim refuses
  refuses : (n : ℕ) → first (claim_tests pic width height lent x y target) sound ≡ refused n → pic' ≡ pic → Told (refused n) rows number rows' → Told (refused n) count number count' → Lists pic width height lent x y target pic' rows rows' count count' number
  -- then it wants places for a row a pixel, and one for their count
  short : first (claim_tests pic width height lent x y target) sound ≡ sound → (length rows < 3 * (width * height)) ⊎ (length count < 1) → pic' ≡ pic → Told (refused_by Room) rows number rows' → Told (refused_by Room) count number count' → Lists pic width height lent x y target pic' rows rows' count count' number
  -- else it paints as a claim does, and tells the rows in order and how many they are
  lists : first (claim_tests pic width height lent x y target) sound ≡ sound → 3 * (width * height) ≤ length rows → 1 ≤ length count → Paints pic width height x y target pic' → Told (found (these (row_numbers pic width height x y target))) rows number rows' → Told (found (these (length (rows_met pic width height x y target) ∷ []))) count number count' → Lists pic width height lent x y target pic' rows rows' count count' number
