-- `put_counted` writes a table, and two numbers behind it. Assumes nothing.
use mathlib.Core.Path.{◌∙◌, ap}
use mathlib.Core.List.{List, [], ◌∷◌}
use Prim.Native.Nat.{ℕ}
use Rattle.told_places.specs.Put.{put_at}
use Rattle.told_places.proofs.entries.put_counted.Goals as goal

pub returns : goal.returns
returns c =
    c.put_counts.ensures ∙ ap (λ (s : List ℕ). put_at s 1004 (c.args.table.n ∷ c.args.count ∷ [])) c.put_entries.ensures
