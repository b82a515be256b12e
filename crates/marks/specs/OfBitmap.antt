-- The search in any bitmap: document 01, the order of detect's refusals. Definitions alone.
use Rattle.std.specs.Prelude.{ℕ, ◌≡◌, List, [], ◌∷◌, length}
use Rattle.refusals.specs.Finding.{refused}
use Rattle.refusals.specs.First.{Test, first, sound}
use Rattle.picture.specs.Sides.{size_test, length_test, room_test}
use Rattle.picture.specs.Bitmap.{byte_test}
use Rattle.table.specs.Table.{empty_table}
use Rattle.marks.specs.Search.{all_cuts, Searches, outcome, Laid}
use Rattle.marks.specs.declared.search.Marks.{Marks}

-- what detect tests first: 1, 2, 3, 4
abbrev pub bitmap_tests : List ℕ → ℕ → ℕ → ℕ → List Test
bitmap_tests p w h lent = size_test w h ∷ length_test w h (length p) ∷ room_test w h lent ∷ byte_test p ∷ []

-- the marks r of a bitmap p, which leave it as q
pub data OfBitmap (p : List ℕ) (w h lent : ℕ) (q : List ℕ) (r : Marks) : Type 0 where
  -- the first test that applies is told, with the picture as it was and an empty table
  refuses : (n : ℕ) → first (bitmap_tests p w h lent) sound ≡ refused n → q ≡ p → outcome r ≡ refused n → r.table ≡ empty_table → Laid r → OfBitmap p w h lent q r
  -- else all its cuts are searched, from the empty table ("Detect empties the table first")
  searches : first (bitmap_tests p w h lent) sound ≡ sound → Searches w h (all_cuts p w h) p empty_table [] (outcome r) q r.table → Laid r → OfBitmap p w h lent q r
