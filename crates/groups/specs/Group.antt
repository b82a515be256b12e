-- What is asked of a group of stones: document 01, fit a group, 12 "for the caller's corners and centres". Definitions alone.
use Rattle.points.specs.Range.{Within, Near}
use Rattle.capstones.specs.declared.CapStone.{CapStone}
use Rattle.groups.specs.declared.CapStoneGroup.{CapStoneGroup}

-- no centre is further out than document 01 lets a stated point be
pub record Centred (g : CapStoneGroup) : Type 0 where
  pub first : Near g.first.center
  pub second : Near g.second.center
  pub third : Near g.third.center

-- the four corners of a stone are pixels of some picture
pub record Framed (s : CapStone) : Type 0 where
  pub corner0 : Within s.corner0
  pub corner1 : Within s.corner1
  pub corner2 : Within s.corner2
  pub corner3 : Within s.corner3

-- so are all twelve of a group
pub record Cornered (g : CapStoneGroup) : Type 0 where
  pub first : Framed g.first
  pub second : Framed g.second
  pub third : Framed g.third
