-- `pairs_of` takes over the pairs of the sets passed, and leaves the other places blank. Assumes nothing.
use Prim.Native.Nat.{◌≤◌, ◌-◌}
use mathlib.Core.Path.{◌≡◌}
use mathlib.Core.List.{◌++◌, map}
use lib.ListN.{take, replicate}
use Rattle.match_capstones.specs.Answer.{pair_of, no_pair}
use Rattle.match_capstones.proofs.rank.pairs_of.Given as goal

abbrev pub invariant-loop-i : goal.invariant-loop-i
invariant-loop-i l = (l.i ≤ l.last) × (l.pairs ≡ map pair_of (take l.i l.sets.all) ++ replicate (992 - l.i) no_pair)

abbrev pub decreases-loop-i : goal.decreases-loop-i
decreases-loop-i l = l.last - l.i
