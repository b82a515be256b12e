-- A perspective that places one point of the grid has no NaN: a NaN passes through every step of `map`. Assumes nothing.
use Rattle.std.specs.Prelude.{Option, Some, None}
use lib.IntN.{ℤ}
use Prim.Native.Nat.{ℕ}
use native.Mathlib.Omega.{arith}
use mathlib.Core.Path.{◌≡◌, refl}
use lib.Ieee as Ieee
use lib.Ieee.{Float, nan, inf, fin}
use Rattle.refusals.specs.Finding.{found, refused_by}
use Rattle.refusals.specs.declared.Refusal.TheVariants as refusal
use Rattle.floats.specs.Float64.{◌⊕◌, ◌⊗◌, ◌⊘◌, one}
use Rattle.points.specs.declared.Point.{Point}
use Rattle.rounding.specs.Nearest.{nearest_of}
use Rattle.geometry.specs.Map.{placed, map_den, map_x, map_y, mapped}
use Rattle.geometry.specs.declared.Perspective.{Perspective}
use Rattle.bounds.specs.Numbers.{Numbers}

-- ---- what is made of a NaN is a NaN
times : {x : Float} (y : Float) → x ≡ nan → x ⊗ y ≡ nan
unfolding Ieee.mul
times y e = rw e

plus : {x : Float} (y : Float) → x ≡ nan → x ⊕ y ≡ nan
unfolding Ieee.add
plus y e = rw e

to : (x : Float) {y : Float} → y ≡ nan → x ⊕ y ≡ nan
unfolding Ieee.add
to nan e = refl
to (inf s) e = rw e
to (fin s m k) e = rw e

over : {x : Float} (y : Float) → x ≡ nan → x ⊘ y ≡ nan
unfolding Ieee.div
over y e = rw e

under : (x : Float) {y : Float} → y ≡ nan → x ⊘ y ≡ nan
unfolding Ieee.div
under nan e = refl
under (inf s) e = rw e
under (fin s m k) e = rw e

-- ---- a NaN coordinate is at no place
by_x : (c : Perspective) (u v : Float) → map_x c u v ≡ nan → mapped c u v ≡ refused_by refusal.Unplaced
unfolding mapped nearest_of placed
by_x c u v e = rw e

by_y : (c : Perspective) (u v : Float) → map_y c u v ≡ nan → mapped c u v ≡ refused_by refusal.Unplaced
unfolding mapped nearest_of placed
by_y c u v e = rw e (go (nearest_of (map_x c u v)))
  where
    go : (x : Option ℤ) → placed x None ≡ refused_by refusal.Unplaced
    go (Some a) = refl
    go None = refl

module _ (c : Perspective) (u v : Float) where
  by_den : map_den c u v ≡ nan → mapped c u v ≡ refused_by refusal.Unplaced
  unfolding map_x
  by_den e = by_x c u v (under (c.c0 ⊗ u ⊕ c.c1 ⊗ v ⊕ c.c2) e)

  pub placed_numbers : (p : Point) → mapped c u v ≡ found p → Numbers c
  unfolding map_den map_x map_y
  placed_numbers p e =
      let not : mapped c u v ≡ refused_by refusal.Unplaced → ⊥ = λ r. let z : ◌≡◌ {A = ℕ} 0 1 = cc in omega arith in
      record {
        c0 = λ n. not (by_x c u v (over (map_den c u v) (plus c.c2 (plus (c.c1 ⊗ v) (times u n)))));
        c1 = λ n. not (by_x c u v (over (map_den c u v) (plus c.c2 (to (c.c0 ⊗ u) (times v n)))));
        c2 = λ n. not (by_x c u v (over (map_den c u v) (to (c.c0 ⊗ u ⊕ c.c1 ⊗ v) n)));
        c3 = λ n. not (by_y c u v (over (map_den c u v) (plus c.c5 (plus (c.c4 ⊗ v) (times u n)))));
        c4 = λ n. not (by_y c u v (over (map_den c u v) (plus c.c5 (to (c.c3 ⊗ u) (times v n)))));
        c5 = λ n. not (by_y c u v (over (map_den c u v) (to (c.c3 ⊗ u ⊕ c.c4 ⊗ v) n)));
        c6 = λ n. not (by_den (plus one (plus (c.c7 ⊗ v) (times u n))));
        c7 = λ n. not (by_den (plus one (to (c.c6 ⊗ u) (times v n))));
      }
