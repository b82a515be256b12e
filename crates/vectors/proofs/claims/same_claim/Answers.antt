-- `same_claim` lends the first bytes and entries. Assumes nothing.
use native.Mathlib.Omega.{arith}
use lib.ListN.{length-take}
use Rattle.vectors.proofs.claims.same_claim.Goals as goal

pub slice_bounds-claim_drawn-end-2 : goal.slice_bounds-claim_drawn-end-2
slice_bounds-claim_drawn-end-2 c = simp length-take (omega arith)

pub slice_bounds-claim_drawn-end-4 : goal.slice_bounds-claim_drawn-end-4
slice_bounds-claim_drawn-end-4 c = simp length-take (omega arith)
