-- `put_entries` writes a table's places one after the other. Assumes nothing.
use native.Mathlib.Omega.{arith}
use mathlib.Core.Path.{refl, sym, ◌∙◌}
use Rattle.told_places.proofs.Places.{each_next, each_last}
use Rattle.told_places.proofs.entries.put_entries.Goals as goal

pub loop-k-init : goal.loop-k-init
loop-k-init c = (refl, refl)

pub put_entry-requires : goal.put_entry-requires
put_entry-requires c =
    omega (arith, c.loop-k.invariant.1, c.requires)

pub loop-k-preserved : goal.loop-k-preserved
loop-k-preserved c = (
  rw c.put_entry.ensures (sym (each_next _ 4 251 c.loop-k.k c.loop-k.out (omega arith)) ∙ c.loop-k.invariant.0),
  omega (arith, c.loop-k.invariant.1, c.put_entry.auto.out),
)

pub returns : goal.returns
returns c = sym (each_last _ 4 251 c.loop-k.k c.loop-k.out (omega arith)) ∙ c.loop-k.invariant.0
