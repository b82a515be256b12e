-- What points, outlines and estimates meet: 12 to 15. Assumes nothing.
use Rattle.std.specs.Prelude.{Option, Some, None}
use lib.IntN.{ℤ}
use Prim.Native.Nat.{ℕ}
use native.Mathlib.Omega.{arith}
use mathlib.Core.Bool.{Bool, true, false, not, cond, ◌&&◌}
use mathlib.Core.List.{List}
use lib.Dec.{eqb, ltb}
use lib.Ieee.{Float}
use Rattle.refusals.specs.Limits.{farthest}
use Rattle.refusals.specs.Finding.{Finding, found, refused, refused_by}
use Rattle.refusals.specs.declared.Refusal.TheVariants as refusal
use Rattle.points.specs.declared.Point.{Point}
use Rattle.rounding.specs.Nearest.{nearest_of}
use Rattle.geometry.specs.Map.{placed, map_x, map_y, mapped}
use Rattle.geometry.specs.declared.Perspective.{Perspective}
use Rattle.geometry.specs.declared.Sight.{Sight}
use Rattle.geometry.specs.declared.Sight.TheVariants.{Made, Flat}
use Rattle.stated.specs.Stated.{near, judged, stated, stated_at}
use Rattle.lines.specs.Meet.{meet_of}
use Rattle.capstones.specs.declared.CapStone.{CapStone}
use Rattle.groups.specs.Orient.{oriented}
use Rattle.groups.specs.Side.{side_of}
use Rattle.groups.specs.Turn.{turned_by, sight, seen, sighted, rotated_of}
use Rattle.groups.specs.Rotate.{gathered, rotated_group}
use Rattle.groups.specs.declared.CapStoneGroup.{CapStoneGroup}
use Rattle.groups.specs.declared.Oriented.{Oriented}
use Rattle.cells.specs.Cell.{middle}
use Rattle.timing.specs.Measure.{size_by, size_between, measured_between, measured_of}
use Rattle.outline.specs.Outline.{cornered, judged_outline, met_outline, crossed_outline, measured_outline, sized_outline, turned_outline, outline_of}
use Rattle.alignment.specs.Estimate.{area_of, estimate_by, estimate_between, corner_down, corner_right, estimate_of}
use Rattle.met.specs.Met.{Met}

pub mapped_met : (c : Perspective) (u v : Float) → Met (mapped c u v)
unfolding mapped placed
mapped_met c u v = go (nearest_of (map_x c u v)) (nearest_of (map_y c u v))
  where
    go : (a b : Option ℤ) → Met (placed a b)
    go (Some a) (Some b) = tt
    go (Some a) None = (omega arith, omega arith)
    go None b = (omega arith, omega arith)

-- 12, or what is found
far_met : {A : Type 0} (t : Bool) (a : A) → Met (cond t (refused_by refusal.Far) (found a))
far_met true a = (omega arith, omega arith)
far_met false a = tt

judged_met : (p : Point) → Met (judged p)
unfolding judged
judged_met p = far_met (not (near p)) p

stated_met : (c : Perspective) (u v : Float) → Met (stated_at c u v)
unfolding stated
stated_met c u v = go (mapped c u v) (mapped_met c u v)
  where
    go : (f : Finding Point) → Met f → Met (stated f)
    go (found p) m = judged_met p
    go (refused n) m = m

-- ---- the outline
rotated_met : (s : CapStone) (h0 hd : Point) → Met (rotated_of s h0 hd)
unfolding rotated_of sighted seen
rotated_met s h0 hd = go (turned_by (side_of h0 hd) s) (sight (turned_by (side_of h0 hd) s))
  where
    go : (t : CapStone) (v : Sight) → Met (seen t v)
    go t (Made c) = tt
    go t Flat = (omega arith, omega arith)

group_met : (o : Oriented) → Met (rotated_group o)
unfolding rotated_group gathered
group_met o =
    go (rotated_of o.group.first o.h0 o.hd) (rotated_of o.group.second o.h0 o.hd) (rotated_of o.group.third o.h0 o.hd)
    (rotated_met o.group.first o.h0 o.hd) (rotated_met o.group.second o.h0 o.hd) (rotated_met o.group.third o.h0 o.hd)
  where
    go : (a b c : Finding CapStone) → Met a → Met b → Met c → Met (gathered a b c)
    go (found a) (found b) (found c) k l m = tt
    go (found a) (found b) (refused n) k l m = m
    go (found a) (refused n) c k l m = l
    go (refused n) b c k l m = k

size_met : (hscan vscan : ℕ) → Met (size_by hscan vscan)
unfolding size_by
size_met hscan vscan = go (eqb hscan 0 && eqb vscan 0) _
  where
    go : (t : Bool) (n : ℕ) → Met (cond t (refused_by refusal.Timing) (found n))
    go true n = (omega arith, omega arith)
    go false n = tt

module _ (pic : List ℕ) (width height : ℕ) where
  measured_met : (c0 c1 c2 : Perspective) → Met (measured_of pic width height c0 c1 c2)
  unfolding measured_of measured_between size_between
  measured_met c0 c1 c2 =
      go (stated_at c0 (middle 6) (middle 0)) (stated_at c1 (middle 6) (middle 6)) (stated_at c2 (middle 0) (middle 6))
      (stated_met c0 (middle 6) (middle 0)) (stated_met c1 (middle 6) (middle 6)) (stated_met c2 (middle 0) (middle 6))
    where
      go : (a b c : Finding Point) → Met a → Met b → Met c → Met (measured_between pic width height a b c)
      go (found a) (found b) (found c) k l m = size_met _ _
      go (found a) (found b) (refused n) k l m = m
      go (found a) (refused n) c k l m = l
      go (refused n) b c k l m = k

  sized_met : (g : CapStoneGroup) (hd : Point) → Met (sized_outline pic width height g hd)
  unfolding sized_outline measured_outline crossed_outline met_outline judged_outline cornered
  sized_met g hd = go (measured_of pic width height g.first.c g.second.c g.third.c) (measured_met g.first.c g.second.c g.third.c)
    where
      corner : (size : ℕ) (f : Finding Point) → Met f → Met (cornered g hd size f)
      corner size (found p) m = tt
      corner size (refused n) m = m

      cross : (size : ℕ) (m : Option Point) → Met (met_outline g hd size m)
      cross size (Some p) = corner size (judged p) (judged_met p)
      cross size None = tt

      go : (f : Finding ℕ) → Met f → Met (measured_outline g hd f)
      go (found size) m = cross size (meet_of g.first.corner0 g.first.corner1 g.third.corner0 g.third.corner3)
      go (refused n) m = m

  pub outline_met : (g : CapStoneGroup) → Met (outline_of pic width height g)
  unfolding outline_of turned_outline
  outline_met g = go (rotated_group (oriented g)) (group_met (oriented g))
    where
      go : (f : Finding CapStoneGroup) → Met f → Met (turned_outline pic width height (oriented g).hd f)
      go (found t) m = sized_met t (oriented g).hd
      go (refused n) m = m

-- ---- the estimate
pub estimate_met : (c0 c2 : Perspective) (seed : Point) → Met (estimate_of c0 c2 seed)
unfolding estimate_of estimate_between estimate_by corner_down corner_right
estimate_met c0 c2 seed = go (corner_down c0 seed) (corner_right c2 seed) (stated_met c0 _ _) (stated_met c2 _ _)
  where
    go : (a c : Finding Point) → Met a → Met c → Met (estimate_between seed a c)
    go (found a) (found c) k l = far_met (ltb farthest (area_of seed a c)) (area_of seed a c)
    go (found a) (refused n) k l = l
    go (refused n) c k l = k
