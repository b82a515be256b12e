-- `put_pairs` writes an array's pairs one after the other. Assumes nothing.
use Prim.Native.Nat.{ℕ, ◌-◌}
use mathlib.Core.Path.{◌≡◌}
use lib.ListN.{length, get_or}
use Rattle.match_capstones.specs.Answer.{no_pair}
use Rattle.told_places.specs.Put.{put_each}
use Rattle.exports_ranking.specs.Ranks.{pair_numbers, all_pairs}
use Rattle.exports_ranking.proofs.pairs.put_pairs.Given as goal

abbrev pub invariant-loop-k : goal.invariant-loop-k
invariant-loop-k l =
    (put_each (λ (i : ℕ). pair_numbers (get_or l.pairs i no_pair)) 2 (992 - l.k) l.k l.out ≡ all_pairs l.pairs l.initial.out) × (length l.out ≡ length l.initial.out)
