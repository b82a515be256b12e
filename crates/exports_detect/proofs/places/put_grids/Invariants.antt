-- `put_grids` writes an array's grids one after the other. Assumes nothing.
use Prim.Native.Nat.{ℕ, ◌-◌}
use mathlib.Core.Path.{◌≡◌}
use lib.ListN.{length}
use Rattle.told_places.specs.Put.{put_each}
use Rattle.told_places.specs.Values.{floats_of}
use Rattle.exports_detect.specs.Tells.{places_of, grid_at, all_places, all_floats}
use Rattle.exports_detect.proofs.places.put_grids.Given as goal

abbrev pub invariant-loop-k : goal.invariant-loop-k
invariant-loop-k l =
    (put_each (λ (i : ℕ). places_of (grid_at l.grids i)) 9 (31 - l.k) l.k l.places ≡ all_places l.grids l.initial.places)
    × (put_each (λ (i : ℕ). floats_of (grid_at l.grids i).c) 8 (31 - l.k) l.k l.floats ≡ all_floats l.grids l.initial.floats)
    × (length l.places ≡ length l.initial.places) × (length l.floats ≡ length l.initial.floats)
