-- A group turned, stone by stone. Taken from the Rust (`from_group`, "Rotate each capstone"). Definitions alone.
use Rattle.std.specs.Prelude.{Option, Some, None}
use Rattle.refusals.specs.Finding.{Finding, found, refused, refused_by}
use Rattle.refusals.specs.declared.Refusal.TheVariants as refusal
use Rattle.points.specs.Range.{Near}
use Rattle.corners.specs.Scores.{Direction}
use Rattle.capstones.specs.declared.CapStone.{CapStone}
use Rattle.groups.specs.Group.{Cornered}
use Rattle.groups.specs.Turn.{rotated_of}
use Rattle.groups.specs.declared.CapStoneGroup.{CapStoneGroup}
use Rattle.groups.specs.declared.Oriented.{Oriented}

-- an answer in document 01's terms: a group, or 15
abbrev pub meaning : Option CapStoneGroup → Finding CapStoneGroup
meaning (Some g) = found g
meaning None = refused_by refusal.Turned

-- the corners lie in some picture, and the line in the range of 12
pub record Turnable (o : Oriented) : Type 0 where
  pub cornered : Cornered o.group
  pub start : Near o.h0
  pub direction : Direction o.hd

-- three stones, or the first refusal among them
unfoldable pub gathered : Finding CapStone → Finding CapStone → Finding CapStone → Finding CapStoneGroup
gathered (found a) (found b) (found c) = found (record { first = a; second = b; third = c })
gathered (found a) (found b) (refused n) = refused n
gathered (found a) (refused n) c = refused n
gathered (refused n) b c = refused n

-- each stone turned by the group's line, in the order first, second, third
unfoldable pub rotated_group : Oriented → Finding CapStoneGroup
rotated_group o =
    gathered
    (rotated_of o.group.first o.h0 o.hd)
    (rotated_of o.group.second o.h0 o.hd)
    (rotated_of o.group.third o.h0 o.hd)
