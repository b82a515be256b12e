-- The operation: document 01, "detect 1, 2, 3, 4, then as met, and a refusal met in a trial is detect's own", and "A refused call leaves picture and table as at entry". Definitions alone.
use Rattle.std.specs.Prelude.{ℕ, ◌≡◌, List, [], ◌∷◌, length}
use Rattle.refusals.specs.Finding.{Finding, found, refused}
use Rattle.refusals.specs.First.{Test, first, sound}
use Rattle.picture.specs.Sides.{size_test, length_test, room_test}
use Rattle.picture.specs.Bitmap.{byte_test}
use Rattle.table.specs.declared.Table.{Table}
use Rattle.detect.specs.Telling.{Telling}
use Rattle.detect.specs.Stages.{Finds}

-- what detect tests first: 1, 2, 3 for the stack, 3 for the scratch, 4
abbrev pub detect_tests : List ℕ → ℕ → ℕ → ℕ → ℕ → List Test
detect_tests p w h lent scratch = size_test w h ∷ length_test w h (length p) ∷ room_test w h lent ∷ room_test w h scratch ∷ byte_test p ∷ []

-- a bitmap that passes: what its stages find, with the paint and the table that they leave; or a refusal, with picture and table as at entry
pub data DetectsWhole (p : List ℕ) (w h : ℕ) (T : Table) (f : Finding Telling) (q : List ℕ) (U : Table) : Type 0 where
  finds : (t : Telling) → Finds p w h (found t) q U → f ≡ found t → DetectsWhole p w h T f q U
  puts_back : (n : ℕ) (m : List ℕ) (Left : Table) → Finds p w h (refused n) m Left → f ≡ refused n → q ≡ p → U ≡ T → DetectsWhole p w h T f q U

-- detect, for every input
pub data DetectPost (p : List ℕ) (w h lent scratch : ℕ) (T : Table) (f : Finding Telling) (q : List ℕ) (U : Table) : Type 0 where
  refuses : (n : ℕ) → first (detect_tests p w h lent scratch) sound ≡ refused n → f ≡ refused n → q ≡ p → U ≡ T → DetectPost p w h lent scratch T f q U
  detects : first (detect_tests p w h lent scratch) sound ≡ sound → DetectsWhole p w h T f q U → DetectPost p w h lent scratch T f q U
