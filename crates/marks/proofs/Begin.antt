-- A bitmap that passes detect's tests is a picture in work; what the tests of a room and of a bitmap come to, one after the other. Assumes nothing.
use Prim.Native.Nat.{ℕ}
use mathlib.Core.Path.{◌≡◌, sym, ◌∙◌}
use mathlib.Core.List.{List, [], ◌∷◌}
use lib.ListN.{length}
use borrow.Author.Tests.{not-false}
use Rattle.refusals.specs.First.{first, sound}
use Rattle.refusals.proofs.First.{Clear, clear, first_after}
use Rattle.picture.specs.Sides.{side_tests, room_tests}
use Rattle.picture.specs.Bitmap.{byte_test, accept_tests}
use Rattle.picture.proofs.Passed.{clear_roomy}
use Rattle.table.specs.Table.{empty_table}
use Rattle.demand.proofs.Kept.{kept_begin}
use Rattle.marks.specs.InWork.{InWork}
use Rattle.marks.specs.OfBitmap.{bitmap_tests}

module _ (p : List ℕ) (w h lent : ℕ) where
  -- after the tests of sides, length and room, accepting tests the bytes
  pub then_bytes : Clear (room_tests w h (length p) lent) → first (bitmap_tests p w h lent) sound ≡ first (accept_tests p w h) sound
  then_bytes c =
      first_after (room_tests w h (length p) lent) (byte_test p ∷ []) sound c
      ∙ sym (first_after (side_tests w h (length p)) (byte_test p ∷ []) sound (c.0, (c.1.0, tt)))

  pub begins_work : first (bitmap_tests p w h lent) sound ≡ sound → InWork p w h lent empty_table
  begins_work e =
      let c = clear (bitmap_tests p w h lent) e in
      let R = clear_roomy w h (length p) lent (c.0, (c.1.0, (c.1.1.0, tt))) in
      record { bitmap = p; calls = []; kept = kept_begin (record { sized = R.sized; bits = not-false _ c.1.1.1.0 }); roomy = R }
