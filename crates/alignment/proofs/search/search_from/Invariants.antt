-- `search_from` visits and glides, until a place is the answer, a visit is refused, or the leg is too long. Assumes nothing.
use mathlib.Core.Path.{◌≡◌}
use lib.ListN.{length}
use Rattle.alignment.specs.Spiral.{passes_left}
use Rattle.alignment.proofs.Spiralling.{Along}
use Rattle.alignment.proofs.search.search_from.Given as goal

abbrev pub invariant-loop-pass : goal.invariant-loop-pass
invariant-loop-pass l =
    Along l.initial.pic l.width l.height l.estimate l.initial.pass l.initial.at l.initial.sofar l.pic (length l.stack) l.pass l.at l.sofar × (length l.pic ≡ length l.initial.pic) × (length l.stack ≡ length l.initial.stack)

abbrev pub decreases-loop-pass : goal.decreases-loop-pass
decreases-loop-pass l = passes_left l.pass
