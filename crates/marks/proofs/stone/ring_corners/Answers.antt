-- `ring_corners` fills the ring with 4 and then with 2, each with its finder. Assumes nothing.
use native.Mathlib.Omega.{arith}
use Prim.Native.Nat.{◌≤◌}
use lib.ListN.{length}
use Rattle.corners.proofs.Small.{first_corner_ready, all_corners_ready}
use Rattle.marks.specs.Stone.{first_corner}
use Rattle.marks.proofs.Fills.{ring_sides, fill_four, seed_low, seed_within, corner_within, fill_two}
use Rattle.marks.proofs.stone.ring_corners.Goals as goal

pub point_at-start-requires : goal.point_at-start-requires
point_at-start-requires c = seed_low c.requires

pub fill_and_find-first-requires : goal.fill_and_find-first-requires
fill_and_find-first-requires c =
    record {
      fact_1 = fill_four c.requires;
      fact_2 = ring_sides c.requires;
      fact_3 = rw (c.new-finder.ensures, c.point_at-start.ensures) (first_corner_ready (seed_within c.requires));
    }

pub new-finders-requires : goal.new-finders-requires
unfolding first_corner
new-finders-requires c =
    record {
      fact_1 = rw c.point_at-start.ensures (seed_within c.requires);
      fact_2 =
          rw (c.fill_and_find-first.ensures.1, c.new-finder.ensures, c.point_at-start.ensures)
          (corner_within c.requires);
    }

pub fill_and_find-requires : goal.fill_and_find-requires
unfolding first_corner
fill_and_find-requires c =
    let room_after : length c.args.stack.now ≤ length c.fill_and_find-first.new.stack = omega (arith, c.fill_and_find-first.auto.stack) in
    record {
      fact_1 = fill_two c.requires c.fill_and_find-first.ensures.0 room_after;
      fact_2 = ring_sides c.requires;
      fact_3 =
          rw (c.new-finders.ensures, c.fill_and_find-first.ensures.1, c.new-finder.ensures, c.point_at-start.ensures)
          (all_corners_ready (seed_within c.requires) (corner_within c.requires));
    }

pub returns : goal.returns
unfolding first_corner
returns c =
    record {
      between = _;
      four = c.fill_and_find-first.ensures.0;
      two = c.fill_and_find.ensures.0;
      are =
          rw (
            c.fill_and_find.ensures.1,
            c.new-finders.ensures,
            c.fill_and_find-first.ensures.1,
            c.new-finder.ensures,
            c.point_at-start.ensures,
          );
    }
