-- A group of stones as a caller lends it, number by number. Definitions alone.
use Rattle.std.specs.Prelude.{ℕ, ◌+◌, List, ℤ}
use Rattle.told.specs.Points.{point_at}
use Rattle.capstones.specs.Blank.{no_stone}
use Rattle.capstones.specs.declared.CapStone.{CapStone}
use Rattle.groups.specs.declared.CapStoneGroup.{CapStoneGroup}

-- the stone whose corners and centre stand from a place on; fit makes its perspective anew
unfoldable pub stone_at : List ℤ → ℕ → CapStone
stone_at ns at = record {
  corner0 = point_at ns at (at + 1);
  corner1 = point_at ns (at + 2) (at + 3);
  corner2 = point_at ns (at + 4) (at + 5);
  corner3 = point_at ns (at + 6) (at + 7);
  center = point_at ns (at + 8) (at + 9);
  c = no_stone.c;
}

-- three stones, one behind the other
unfoldable pub group_of : List ℤ → CapStoneGroup
group_of ns = record { first = stone_at ns 0; second = stone_at ns 10; third = stone_at ns 20 }
