-- `fitness_timing` takes one place after the other. Assumes nothing.
use Prim.Native.Nat.{◌-◌}
use native.Mathlib.Omega.{arith}
use mathlib.Core.Path.{◌≡◌}
use Rattle.fitness.specs.Expected.{crossing, timing}
use Rattle.fitness.proofs.Totals.{no_turns, one_place}
use Rattle.fitness.proofs.timing.fitness_timing.Goals as goal

pub loop-k-init : goal.loop-k-init
loop-k-init c = no_turns _ _ _ _

pub loop-k-preserved : goal.loop-k-preserved
loop-k-preserved c =
    one_place _ _ _ _ crossing 7 c.loop-k.k (omega arith) c.loop-k.invariant c.fitness_crossing.ensures c.plus-score.ensures (omega arith)

pub returns : goal.returns
unfolding timing
returns c =
    let last : c.loop-k.k - 7 ≡ c.args.size - 14 = omega arith in
    record { is = rw (← last) c.loop-k.invariant.is; small = omega arith }
