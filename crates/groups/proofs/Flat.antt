-- 15 can be met: three stones in range, whose corners have perspectives, and a turn of them that has none. Assumes nothing.
use mathlib.Core.Path.{◌≡◌, refl}
use lib.Dec.{lit<}
use lib.Ieee as Ieee
use Rattle.refusals.specs.Finding.{refused_by}
use Rattle.refusals.specs.declared.Refusal.TheVariants as refusal
use Rattle.points.specs.declared.Point.{Point}
use Rattle.geometry.specs.Create.{width_den, height_den, judged, sight_of}
use Rattle.geometry.specs.declared.Perspective.{Perspective}
use Rattle.geometry.specs.declared.Sight.TheVariants.{Made}
use Rattle.capstones.specs.declared.CapStone.{CapStone}
use Rattle.capstones.specs.Blank.{no_sight}
use Rattle.corners.specs.Rows.{point_at}
use Rattle.corners.specs.Scores.{across_of, line_from}
use Rattle.corners.proofs.Small.{point_within, within_near}
use Rattle.groups.specs.Side.{side_of, reversed}
use Rattle.groups.specs.Group.{Centred, Framed, Cornered}
use Rattle.groups.specs.Orient.{oriented}
use Rattle.groups.specs.Turn.{turn, lefter, turned_by, sight, seen, sighted, rotated_of}
use Rattle.groups.specs.Rotate.{gathered, rotated_group}
use Rattle.groups.specs.declared.CapStoneGroup.{CapStoneGroup}

-- corners 1, 2 and 3 are a triangle's, and corner 0 lies on its edge
abbrev pub triangle : Point → CapStone
triangle center = record { corner0 = point_at 1 1; corner1 = point_at 0 1; corner2 = point_at 1 0; corner3 = point_at 2 1; center = center; c = no_sight }

pub triangle_made : (center : Point) → (c : Perspective) × (sight (triangle center) ≡ Made c)
unfolding sight_of judged width_den height_den Ieee.add Ieee.sub Ieee.mul Ieee.of_int Ieee.lt
triangle_made center = (_, refl)

triangle_framed : (center : Point) → Framed (triangle center)
triangle_framed center =
    record {
      corner0 = point_within (lit< tt) (lit< tt);
      corner1 = point_within (lit< tt) (lit< tt);
      corner2 = point_within (lit< tt) (lit< tt);
      corner3 = point_within (lit< tt) (lit< tt);
    }

-- three such stones of a picture that is three wide and two high
abbrev pub triangles : CapStoneGroup
triangles = record { first = triangle (point_at 0 1); second = triangle (point_at 1 0); third = triangle (point_at 2 1) }

pub triangles_centred : Centred triangles
triangles_centred =
    record {
      first = within_near (point_within (lit< tt) (lit< tt));
      second = within_near (point_within (lit< tt) (lit< tt));
      third = within_near (point_within (lit< tt) (lit< tt));
    }

pub triangles_cornered : Cornered triangles
triangles_cornered =
    record {
      first = triangle_framed (point_at 0 1);
      second = triangle_framed (point_at 1 0);
      third = triangle_framed (point_at 2 1);
    }

-- turned by their line they start at (1, 0), and the three corners after it lie on one line
pub triangles_turned : rotated_group (oriented triangles) ≡ refused_by refusal.Turned
unfolding rotated_group gathered oriented rotated_of turned_by lefter turn sighted seen side_of reversed across_of line_from sight_of judged width_den height_den Ieee.add Ieee.sub Ieee.mul Ieee.of_int Ieee.lt
triangles_turned = refl
