use Rattle.std.proofs.Common.{length, ◌-◌, ◌≤◌}
use Rattle.inputs.proofs.read_full.Given as goal

-- no more bytes were read than there is room for
abbrev pub invariant-loop-done : goal.invariant-loop-done
invariant-loop-done g l = l.done ≤ length l.buf

-- the room that is left
abbrev pub decreases-loop-done : goal.decreases-loop-done
decreases-loop-done g l = length l.buf - l.done
