-- `shade_row` shades a row column by column. Assumes nothing.
use mathlib.Core.Path.{◌≡◌}
use lib.ListN.{length, take}
use Rattle.prepare.proofs.Shades.{shading}
use Rattle.prepare.proofs.threshold.shade_row.Given as goal

abbrev pub invariant-loop-x : goal.invariant-loop-x
invariant-loop-x l = shading l.s l.row (take (length l.initial.row) l.lefts) (take (length l.initial.row) l.rights) l.x ≡ shading l.s l.initial.row (take (length l.initial.row) l.lefts) (take (length l.initial.row) l.rights) 0
