-- `fitness_columns` takes one column after the other. Assumes nothing.
use Prim.Native.Nat.{◌-◌}
use native.Mathlib.Omega.{arith}
use mathlib.Core.Path.{◌≡◌}
use Rattle.version_db.specs.AnnexE.{count_of, position_of}
use Rattle.fitness.specs.Expected.{column, columns}
use Rattle.fitness.proofs.Totals.{no_turns, one_place}
use Rattle.fitness.proofs.alignment.fitness_columns.Goals as goal

pub loop-k-init : goal.loop-k-init
loop-k-init c = (omega arith, no_turns _ _ _ _)

pub loop-k-preserved : goal.loop-k-preserved
loop-k-preserved c =
    (omega arith, one_place _ _ _ _ (λ k. column c.args.version (position_of c.args.version k)) 1 c.loop-k.k (omega arith) c.loop-k.invariant.1 (rw c.place-cx.ensures.0 at c.fitness_column.ensures) c.plus-score.ensures (omega arith))

pub returns : goal.returns
unfolding columns
returns c =
    let last : c.loop-k.k - 1 ≡ count_of c.args.version - 1 = omega arith in
    record { is = rw (← last) c.loop-k.invariant.1.is; small = omega arith }
