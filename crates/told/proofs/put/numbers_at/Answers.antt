-- `put::numbers_at` writes two whole numbers from a place on. Assumes nothing.
use native.Mathlib.Omega.{arith}
use lib.ListN.{length-set}
use Rattle.told.proofs.put.numbers_at.Goals as goal

pub bounds-out-at-2 : goal.bounds-out-at-2
bounds-out-at-2 c = simp length-set (omega arith)
