-- `put_pair` writes two indices from a place on. Assumes nothing.
use native.Mathlib.Omega.{arith}
use lib.ListN.{length-set}
use Rattle.told_places.proofs.Places.{put_two}
use Rattle.exports_ranking.proofs.pairs.put_pair.Goals as goal

pub bounds-out-at-2 : goal.bounds-out-at-2
bounds-out-at-2 c = simp length-set (omega arith)

pub returns : goal.returns
returns c = put_two _ _ _ _
