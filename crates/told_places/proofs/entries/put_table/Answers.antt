-- `put_table` writes a table and a number behind it, and one number more. Assumes nothing.
use mathlib.Core.Path.{ap}
use mathlib.Core.List.{List}
use lib.ListN.{set}
use Prim.Native.Nat.{ℕ}
use Rattle.told_places.specs.Put.{put_at}
use Rattle.told_places.proofs.entries.put_table.Goals as goal

pub returns : goal.returns
unfolding put_at
returns c =
    ap (λ (s : List ℕ). set s 1006 c.args.second) c.put_counted.ensures
