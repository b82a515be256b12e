-- `put_stones` writes an array's stones one after the other. Assumes nothing.
use native.Mathlib.Omega.{arith}
use mathlib.Core.Path.{refl, sym, ◌∙◌}
use Rattle.told_places.proofs.Places.{each_next, each_last}
use Rattle.exports_marks.proofs.stones.put_stones.Goals as goal

pub loop-k-init : goal.loop-k-init
loop-k-init c = (refl, refl, refl, refl)

pub put_places-requires : goal.put_places-requires
put_places-requires c =
    omega (arith, c.loop-k.invariant.2, c.requires.fact_1)

pub put_floats-requires : goal.put_floats-requires
put_floats-requires c =
    omega (arith, c.loop-k.invariant.3, c.requires.fact_2)

pub loop-k-preserved : goal.loop-k-preserved
loop-k-preserved c = (
  rw c.put_places.ensures (sym (each_next _ 10 64 c.loop-k.k c.loop-k.places (omega arith)) ∙ c.loop-k.invariant.0),
  rw c.put_floats.ensures (sym (each_next _ 8 64 c.loop-k.k c.loop-k.floats (omega arith)) ∙ c.loop-k.invariant.1),
  omega (arith, c.loop-k.invariant.2, c.put_places.auto.out),
  omega (arith, c.loop-k.invariant.3, c.put_floats.auto.out),
)

pub returns : goal.returns
returns c = (
  sym (each_last _ 10 64 c.loop-k.k c.loop-k.places (omega arith)) ∙ c.loop-k.invariant.0,
  sym (each_last _ 8 64 c.loop-k.k c.loop-k.floats (omega arith)) ∙ c.loop-k.invariant.1,
)
