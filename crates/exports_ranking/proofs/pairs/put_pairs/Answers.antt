-- `put_pairs` writes an array's pairs one after the other. Assumes nothing.
use native.Mathlib.Omega.{arith}
use mathlib.Core.Path.{refl, sym, ◌∙◌}
use Rattle.told_places.proofs.Places.{each_next, each_last}
use Rattle.exports_ranking.proofs.pairs.put_pairs.Goals as goal

pub loop-k-init : goal.loop-k-init
loop-k-init c = (refl, refl)

pub put_pair-requires : goal.put_pair-requires
put_pair-requires c =
    omega (arith, c.loop-k.invariant.1, c.requires)

pub loop-k-preserved : goal.loop-k-preserved
loop-k-preserved c = (
  rw c.put_pair.ensures (sym (each_next _ 2 992 c.loop-k.k c.loop-k.out (omega arith)) ∙ c.loop-k.invariant.0),
  omega (arith, c.loop-k.invariant.1, c.put_pair.auto.out),
)

pub returns : goal.returns
returns c = sym (each_last _ 2 992 c.loop-k.k c.loop-k.out (omega arith)) ∙ c.loop-k.invariant.0
