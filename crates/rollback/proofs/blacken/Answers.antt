-- `blacken` takes the paint off byte by byte. Assumes nothing.
use mathlib.Core.Path.{sym, ◌∙◌}
use native.Mathlib.Omega.{arith}
use Rattle.rollback.proofs.Bytes.{passing_starts, passing_goes_on, passing_ends}
use Rattle.rollback.proofs.blacken.Goals as goal

pub loop-b-preserved : goal.loop-b-preserved
loop-b-preserved c = sym (passing_goes_on c.loop-b.pic c.loop-b.b-index c.bare.result (omega arith) c.bare.ensures) ∙ c.loop-b.invariant

pub returns : goal.returns
returns c =
    sym (passing_ends c.loop-b.pic c.loop-b.b-index (omega arith)) ∙ c.loop-b.invariant ∙ passing_starts c.args.pic.now
