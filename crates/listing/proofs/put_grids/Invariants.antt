-- `put_grids` puts line after line. Assumes nothing.
use Rattle.std.proofs.Common.{◌≡◌, ◌*◌, length, take}
use Rattle.report.specs.Puts.{Puts}
use Rattle.listing.specs.Listing.{grid_lines}
use Rattle.listing.proofs.put_grids.Given as goal

abbrev pub invariant-loop-k : goal.invariant-loop-k
invariant-loop-k l = Puts (l.k * 236) (grid_lines (take l.k l.grids)) l.initial.out l.at l.out l.next × (length l.out ≡ length l.initial.out)
