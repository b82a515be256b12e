-- `rotate_capstone` makes the perspective of the turned corners, and refuses where it is flat. Assumes nothing.
use mathlib.Core.Path.{sym}
use lib.Ieee.{of_bits}
use Rattle.groups.specs.Turn.{seen, sighted, rotated_of}
use Rattle.groups.proofs.turning.rotate_capstone.Goals as goal

pub returns-in-Made : goal.returns-in-Made
unfolding rotated_of sighted seen of_bits
returns-in-Made c =
    let seen = rw c.create.ensures at c.in-Made.is in
    rw (sym c.turned_by-s.ensures, seen, c.with_sight.ensures)

pub returns-in-Flat : goal.returns-in-Flat
unfolding rotated_of sighted seen of_bits
returns-in-Flat c =
    let seen = rw c.create.ensures at c.in-Flat.is in
    rw (sym c.turned_by-s.ensures, seen)
