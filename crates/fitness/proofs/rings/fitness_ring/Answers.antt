-- `fitness_ring` goes once round: a turn of the loop adds one cell on each side. Assumes nothing.
use Prim.Native.Nat.{◌*◌}
use native.Mathlib.Omega.{arith}
use mathlib.Core.Path.{◌≡◌}
use Rattle.fitness.specs.Expected.{dark, sides, ring}
use Rattle.fitness.proofs.Totals.{no_turns, one_more}
use Rattle.fitness.proofs.rings.fitness_ring.Goals as goal

pub loop-i-init : goal.loop-i-init
loop-i-init c = no_turns _ _ _ _

pub loop-i-preserved : goal.loop-i-preserved
loop-i-preserved c =
    one_more _ _ _ _ (sides dark c.args.cx c.args.cy c.args.radius) c.loop-i.i c.loop-i.invariant c.fitness_sides.ensures c.plus-score.ensures (omega arith)

pub returns : goal.returns
unfolding ring
returns c =
    let round : c.loop-i.i ≡ 2 * c.args.radius = omega arith in
    record { is = rw (← round) c.loop-i.invariant.is; small = omega arith }
