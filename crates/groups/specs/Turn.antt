-- A stone turned by a line: corner 0 becomes the one that lies farthest to its left. Taken from the Rust (`rotate_capstone`). Definitions alone.
use Rattle.std.specs.Prelude.{◌≡◌, cond, List, [], ◌∷◌, ◌++◌, ℤ, ◌<ℤ◌, ◌≤ℤ◌, Option, Some, None}
use Rattle.std.specs.Int.Signed.{lt_z}
use Rattle.refusals.specs.Finding.{Finding, found, refused_by}
use Rattle.refusals.specs.declared.Refusal.TheVariants as refusal
use Rattle.points.specs.declared.Point.{Point}
use Rattle.pieces.specs.Count.{Mem}
use Rattle.geometry.specs.Create.{sight_of}
use Rattle.geometry.specs.declared.Perspective.{Perspective}
use Rattle.geometry.specs.declared.Sight.{Sight}
use Rattle.geometry.specs.declared.Sight.TheVariants.{Made, Flat}
use Rattle.capstones.specs.Modules.{seven}
use Rattle.capstones.specs.declared.CapStone.{CapStone}
use Rattle.groups.specs.Side.{side_of}

-- an answer in document 01's terms: a stone, or 15
abbrev pub meaning : Option CapStone → Finding CapStone
meaning (Some s) = found s
meaning None = refused_by refusal.Turned

-- the corners turned left: each moves one place down, and corner 0 becomes the last
unfoldable pub turn : CapStone → CapStone
turn s = record { corner0 = s.corner1; corner1 = s.corner2; corner2 = s.corner3; corner3 = s.corner0; center = s.center; c = s.c }

-- t instead of s, where its corner 0 lies farther to the left
unfoldable pub lefter : (Point → ℤ) → CapStone → CapStone → CapStone
lefter side s t = cond (lt_z (side t.corner0) (side s.corner0)) t s

-- of the stone and its three turns, the first whose corner 0 lies farthest to the left
unfoldable pub turned_by : (Point → ℤ) → CapStone → CapStone
turned_by side s = lefter side (lefter side (lefter side s (turn s)) (turn (turn s))) (turn (turn (turn s)))

-- a stone with another perspective
abbrev pub with_sight : CapStone → Perspective → CapStone
with_sight s c =
    record { corner0 = s.corner0; corner1 = s.corner1; corner2 = s.corner2; corner3 = s.corner3; center = s.center; c = c }

-- the perspective of a stone's corners
abbrev pub sight : CapStone → Sight
sight s = sight_of s.corner0 s.corner1 s.corner2 s.corner3 seven seven

-- document 01: 15 where "a rotated capstone gives no perspective"
unfoldable pub seen : CapStone → Sight → Finding CapStone
seen s (Made c) = found (with_sight s c)
seen s Flat = refused_by refusal.Turned

-- the stone with the perspective of its corners, made anew
unfoldable pub sighted : CapStone → Finding CapStone
sighted s = seen s (sight s)

-- the stone turned by the line through h0 in the direction hd
unfoldable pub rotated_of : CapStone → Point → Point → Finding CapStone
rotated_of s h0 hd = sighted (turned_by (side_of h0 hd) s)

abbrev pub corners_of : CapStone → List Point
corners_of s = s.corner0 ∷ s.corner1 ∷ s.corner2 ∷ s.corner3 ∷ []

-- what a turned stone is: its corners are those of s, from the first of the leftmost ones on and then from corner 0; its centre is the same
pub record TurnedFrom (side : Point → ℤ) (s t : CapStone) : Type 0 where
  pub before : List Point
  pub after : List Point
  pub are : corners_of s ≡ before ++ (t.corner0 ∷ after)
  pub turned : corners_of t ≡ (t.corner0 ∷ after) ++ before
  pub first : (q : Point) → Mem q before → side t.corner0 <ℤ side q
  pub leftmost : (q : Point) → Mem q after → side t.corner0 ≤ℤ side q
  pub center : t.center ≡ s.center

-- what a rotated stone is: s turned by the line through h0 in the direction hd, with the perspective of its corners
pub record RotatedFrom (s : CapStone) (h0 hd : Point) (t : CapStone) : Type 0 where
  pub turned : TurnedFrom (side_of h0 hd) s t
  pub made : sight t ≡ Made t.c
