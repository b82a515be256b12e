-- `put_found` puts the counts, then the lines. Assumes nothing.
use native.Mathlib.Omega.{arith}
use mathlib.Core.Path.{◌≡◌}
use lib.ListN.{length, take}
use lib.Seq.{length-take-le}
use borrow.Author.Rules.{rules}
use Rattle.detect.specs.Telling.{tells}
use Rattle.report.proofs.Putting.{puts_then, puts_within}
use Rattle.listing.specs.Listing.{listing}
use Rattle.listing.proofs.put_found.Goals as goal

pub returns : goal.returns
unfolding listing tells
returns c =
    let long : length c.args.grids ≡ 31 = search rules in
    let count : length (take c.args.n c.args.grids) ≡ c.args.n = length-take-le c.args.n c.args.grids (omega (arith, long, c.requires.0)) in
    rw count (puts_within 7374 (omega (arith, c.requires.0)) (puts_then c.put_counts-after.ensures c.put_grids.ensures))
