-- `put_counts` writes three counts into the first places. Assumes nothing.
use mathlib.Core.List.{[]}
use native.Mathlib.Omega.{arith}
use lib.ListN.{length-set}
use Rattle.told_claims.specs.Claims.{count_values}
use Rattle.told.proofs.Tell.{tell_values, stored_three}
use Rattle.told_claims.proofs.claims.put_counts.Goals as goal

pub bounds-out-1 : goal.bounds-out-1
bounds-out-1 c = simp length-set (omega arith)

pub returns : goal.returns
unfolding count_values
returns c =
    tell_values _ (stored_three [] c.args.n.rows c.args.n.pixels c.args.n.pushes c.args.out.now c.requires)
