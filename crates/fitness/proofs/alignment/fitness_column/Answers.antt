-- `fitness_column` takes one position after the other. Assumes nothing.
use Prim.Native.Nat.{◌-◌}
use native.Mathlib.Omega.{arith}
use mathlib.Core.Path.{◌≡◌}
use Rattle.version_db.specs.AnnexE.{count_of, position_of}
use Rattle.fitness.specs.Expected.{pattern, column}
use Rattle.fitness.proofs.Totals.{no_turns, one_place}
use Rattle.fitness.proofs.alignment.fitness_column.Goals as goal

pub loop-k-init : goal.loop-k-init
loop-k-init c = (omega arith, no_turns _ _ _ _)

pub loop-k-preserved : goal.loop-k-preserved
loop-k-preserved c =
    (omega arith, one_place _ _ _ _ (λ k. pattern c.args.cx (position_of c.args.version k)) 1 c.loop-k.k (omega arith) c.loop-k.invariant.1 (rw c.place.ensures.0 at c.fitness_apat.ensures) c.plus-score.ensures (omega arith))

pub returns : goal.returns
unfolding column
returns c =
    let last : c.loop-k.k - 1 ≡ count_of c.args.version - 1 = omega arith in
    record { is = rw (← last) c.loop-k.invariant.1.is; small = omega arith }
