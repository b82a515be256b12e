-- `byte_of` answers the byte of a colour: 5 + n fits where n is at most 250. Assumes nothing.
use Prim.Native.Nat.{◌≤◌}
use mathlib.Core.Path.{subst}
use native.Mathlib.Omega.{arith}
use Rattle.picture.specs.Colour.{Shown}
use Rattle.picture.proofs.color.byte_of.Goals as goal

pub overflow_add-result : goal.overflow_add-result
overflow_add-result c =
    let h : c.in-Discarded.n ≤ 250 = subst Shown c.in-Discarded.is c.requires in
    omega arith

pub returns-in-Discarded : goal.returns-in-Discarded
returns-in-Discarded c = rw c.in-Discarded.is
