-- `put_stones` writes an array's stones one after the other. Assumes nothing.
use Prim.Native.Nat.{ℕ, ◌-◌}
use mathlib.Core.Path.{◌≡◌}
use lib.ListN.{length}
use Rattle.told_places.specs.Put.{put_each}
use Rattle.told_places.specs.Values.{floats_of}
use Rattle.exports_marks.specs.Tells.{places_of, stone_at, all_places, all_floats}
use Rattle.exports_marks.proofs.stones.put_stones.Given as goal

abbrev pub invariant-loop-k : goal.invariant-loop-k
invariant-loop-k l =
    (put_each (λ (i : ℕ). places_of (stone_at l.stones i)) 10 (64 - l.k) l.k l.places ≡ all_places l.stones l.initial.places)
    × (put_each (λ (i : ℕ). floats_of (stone_at l.stones i).c) 8 (64 - l.k) l.k l.floats ≡ all_floats l.stones l.initial.floats)
    × (length l.places ≡ length l.initial.places) × (length l.floats ≡ length l.initial.floats)
