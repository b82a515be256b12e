-- A bitmap that passes detect's tests: it can be worked on, the scratch has room, and without its paint it is itself again. Assumes nothing.
use Prim.Native.Nat.{ℕ, ◌*◌, ◌≤◌}
use mathlib.Core.Path.{◌≡◌, sym, ◌∙◌}
use mathlib.Core.List.{List, [], ◌∷◌, ◌++◌, map}
use lib.ListN.{length}
use borrow.Author.Tests.{ltb-false, not-false}
use Rattle.refusals.specs.First.{first, sound}
use Rattle.refusals.proofs.First.{Clear, clear, first_after, first_clear}
use Rattle.picture.specs.Sides.{room_test, side_tests, room_tests}
use Rattle.picture.specs.Bitmap.{byte_test, accept_tests, Accepted}
use Rattle.picture.proofs.Passed.{clear_roomy}
use Rattle.table.specs.Table.{empty_table}
use Rattle.table.specs.declared.Table.{Table}
use Rattle.alignment.proofs.Kept.{Kept}
use Rattle.marks.specs.InWork.{InWork}
use Rattle.marks.specs.OfBitmap.{bitmap_tests}
use Rattle.marks.proofs.Begin.{begins_work}
use Rattle.rollback.specs.Unpainted.{unpainted}
use Rattle.rollback.proofs.Back.{blackened_back}
use Rattle.detect.specs.Detect.{detect_tests}

module _ (p : List ℕ) (w h lent scratch : ℕ) where
  -- after the tests of sides, length and stack, the scratch is tested, then the bytes
  pub then_scratch : Clear (room_tests w h (length p) lent) → first (detect_tests p w h lent scratch) sound ≡ first (room_tests w h (length p) scratch ++ (byte_test p ∷ [])) sound
  then_scratch c =
      first_after (room_tests w h (length p) lent) (room_test w h scratch ∷ byte_test p ∷ []) sound c
      ∙ sym (first_after (side_tests w h (length p)) (room_test w h scratch ∷ byte_test p ∷ []) sound (c.0, (c.1.0, tt)))

  pub then_bytes : Clear (room_tests w h (length p) lent) → Clear (room_tests w h (length p) scratch) → first (detect_tests p w h lent scratch) sound ≡ first (accept_tests p w h) sound
  then_bytes c d =
      then_scratch c
      ∙ first_after (room_tests w h (length p) scratch) (byte_test p ∷ []) sound d
      ∙ sym (first_after (side_tests w h (length p)) (byte_test p ∷ []) sound (c.0, (c.1.0, tt)))

  module _ (e : first (detect_tests p w h lent scratch) sound ≡ sound) where
    passed : Clear (detect_tests p w h lent scratch)
    passed = clear (detect_tests p w h lent scratch) e

    pub starts_work : InWork p w h lent empty_table
    starts_work = let c = passed in begins_work p w h lent (first_clear (bitmap_tests p w h lent) sound (c.0, (c.1.0, (c.1.1.0, (c.1.1.1.1.0, tt)))))

    pub scratch_room : w * h ≤ scratch
    scratch_room = ltb-false scratch (w * h) passed.1.1.1.0

    accepted : Accepted p w h
    accepted = let c = passed in record { sized = (clear_roomy w h (length p) lent (c.0, (c.1.0, (c.1.1.0, tt)))).sized; bits = not-false _ c.1.1.1.1.0 }

    -- "A refused call leaves picture and table as at entry .. even late"
    pub paint_off : {q : List ℕ} {U : Table} → Kept p w h q U → map unpainted q ≡ p
    paint_off {q} K = blackened_back p q w h accepted K.len K.white
