-- `blacken` takes the paint off byte by byte. Assumes nothing.
use mathlib.Core.Path.{◌≡◌}
use Rattle.rollback.proofs.Bytes.{passing}
use Rattle.rollback.proofs.blacken.Given as goal

abbrev pub invariant-loop-b : goal.invariant-loop-b
invariant-loop-b l = passing l.pic l.b-index ≡ passing l.initial.pic 0
