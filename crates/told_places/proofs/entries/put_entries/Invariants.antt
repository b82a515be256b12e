-- `put_entries` writes a table's places one after the other. Assumes nothing.
use Prim.Native.Nat.{◌-◌}
use mathlib.Core.Path.{◌≡◌}
use lib.ListN.{length}
use Rattle.told_places.specs.Put.{put_each}
use Rattle.told_places.specs.Values.{table_numbers}
use Rattle.told_places.proofs.entries.put_entries.Given as goal

abbrev pub invariant-loop-k : goal.invariant-loop-k
invariant-loop-k l =
    (put_each (table_numbers l.table) 4 (251 - l.k) l.k l.out ≡ put_each (table_numbers l.table) 4 251 0 l.initial.out) × (length l.out ≡ length l.initial.out)
