-- `search_bitmap` refuses what `judge` refuses, and else searches from an empty table. Assumes nothing.
use mathlib.Core.Path.{◌≡◌, refl, sym, ap, ◌∙◌}
use lib.ListN.{length}
use Rattle.refusals.specs.First.{first, sound}
use Rattle.picture.specs.Verdict.{judged}
use Rattle.laid.specs.Laid.{told}
use Rattle.marks.specs.OfBitmap.{bitmap_tests, refuses, searches}
use Rattle.marks.proofs.Begin.{begins_work}
use Rattle.marks.proofs.bitmap.search_bitmap.Goals as goal

pub capstones_from_image-requires : goal.capstones_from_image-requires
capstones_from_image-requires c =
    let passed : first (bitmap_tests c.args.pic.now c.args.width c.args.height (length c.args.stack.now)) sound ≡ sound = sym c.judge.ensures ∙ ap judged c.in-Ok.is in
    rw c.empty-in-Ok.ensures (begins_work _ _ _ _ (passed))

pub returns-in-Err : goal.returns-in-Err
unfolding told
returns-in-Err c =
    refuses _ (sym c.judge.ensures ∙ ap judged c.in-Err.is) refl c.none.ensures.0 (c.none.ensures.2 ∙ c.empty.ensures) c.none.ensures.1

pub returns-in-Ok : goal.returns-in-Ok
returns-in-Ok c =
    let passed : first (bitmap_tests c.args.pic.now c.args.width c.args.height (length c.args.stack.now)) sound ≡ sound = sym c.judge.ensures ∙ ap judged c.in-Ok.is in
    searches (passed) (rw c.empty-in-Ok.ensures at c.capstones_from_image.ensures.0) c.capstones_from_image.ensures.1
