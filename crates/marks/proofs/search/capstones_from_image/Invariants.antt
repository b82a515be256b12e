-- `capstones_from_image` goes from cut to cut, until the picture ends or a cut is refused. Assumes nothing.
use mathlib.Core.Path.{◌≡◌}
use lib.ListN.{length}
use Rattle.marks.specs.Cuts.{cuts_after}
use Rattle.marks.proofs.Searching.{Over}
use Rattle.marks.proofs.search.capstones_from_image.Given as goal

abbrev pub invariant-loop-line : goal.invariant-loop-line
invariant-loop-line l =
    Over l.initial.pic l.width l.height l.initial.marks.table l.pic (length l.stack) l.y l.scan l.marks × (length l.pic ≡ length l.initial.pic) × (length l.stack ≡ length l.initial.stack)

abbrev pub decreases-loop-line : goal.decreases-loop-line
decreases-loop-line l = length (cuts_after l.initial.pic l.width l.height l.y l.scan)
