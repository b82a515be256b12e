-- `put_counts` writes two numbers behind the entries. Assumes nothing.
use mathlib.Core.Path.{refl}
use Rattle.told_places.specs.Put.{put_at}
use Rattle.told_places.proofs.entries.put_counts.Goals as goal

pub returns : goal.returns
unfolding put_at
returns c = refl
