-- What `seen_at` says beside the picture and inside, and that `point_of` and `line_of` are what is shown where their points lie. Assumes nothing.
use Rattle.std.specs.Prelude.{Option, Some, None}
use Prim.Native.Nat.{ℕ, ◌+◌, ◌^◌, ◌≤◌, ◌<◌}
use native.Mathlib.Omega.{arith}
use mathlib.Core.Path.{◌≡◌, refl, ◌∙◌}
use mathlib.Core.Bool.{Bool, true, false, cond, ◌&&◌}
use mathlib.Core.List.{List}
use lib.Dec.{ltb}
use lib.IntN.{ℤ, pos, negsuc}
use lib.Ieee.{Float}
use borrow.Author.Tests.{lt-ltb, le-ltb}
use Rattle.refusals.specs.Finding.{Finding, found, refused_by}
use Rattle.refusals.specs.declared.Refusal.TheVariants as refusal
use Rattle.refusals.specs.Limits.{longest_side}
use Rattle.rounding.specs.Nearest.{nearest_of}
use Rattle.geometry.specs.Map.{placed, map_x, map_y, mapped}
use Rattle.geometry.specs.declared.Perspective.{Perspective}
use Rattle.cell_fitness.specs.Seen.{dark_at, dark_in, point_of, line_of}
use Rattle.cell_fitness.specs.Along.{along, beside_at, seen_at}
use Rattle.cell_fitness.specs.Landed.{landed, landed_line, point_at, line_at}
use Rattle.cell_fitness.proofs.Places.{few}

-- two places of which no pixel has both
pub nowhere_across : (x y : ℕ) → 2 ^ 31 < x → refused_by refusal.Unplaced ≡ beside_at x y
unfolding beside_at
nowhere_across x y h = rw (lt-ltb (2 ^ 31) x h)

pub nowhere_down : (x y : ℕ) → x ≤ 2 ^ 31 → 2 ^ 31 < y → refused_by refusal.Unplaced ≡ beside_at x y
unfolding beside_at
nowhere_down x y g h = rw (le-ltb (2 ^ 31) x g, lt-ltb (2 ^ 31) y h)

pub beside_it : (x y : ℕ) → x ≤ 2 ^ 31 → y ≤ 2 ^ 31 → found (pos 0) ≡ beside_at x y
unfolding beside_at
beside_it x y g h = rw (le-ltb (2 ^ 31) x g, le-ltb (2 ^ 31) y h)

either_way : (t : Bool) (a b : ℤ) → found (cond t a b) ≡ cond t (found a) (found b)
either_way true a b = refl
either_way false a b = refl

not_both : (t : Bool) (a b : Finding ℤ) → b ≡ cond (t && false) a b
not_both true a b = refl
not_both false a b = refl

module _ (pic : List ℕ) (width height : ℕ) where
  pub seen_behind : (x y : ℕ) → width ≤ x → beside_at x y ≡ seen_at pic width height x y
  unfolding seen_at
  seen_behind x y h = rw (le-ltb x width h)

  pub seen_below : (x y : ℕ) → height ≤ y → beside_at x y ≡ seen_at pic width height x y
  unfolding seen_at
  seen_below x y h = rw (le-ltb y height h) (not_both (ltb x width) _ _)

  pub seen_inside : (x y : ℕ) → x < width → y < height → found (dark_at pic width height (pos x) (pos y)) ≡ seen_at pic width height x y
  unfolding dark_at seen_at
  seen_inside x y g h = rw (lt-ltb x width g, lt-ltb y height h)

  -- two coordinates from 0 on
  seen_both : (a b : ℕ) → a < 2 ^ 31 → b < 2 ^ 31 → found (dark_at pic width height (pos a) (pos b)) ≡ seen_at pic width height a b
  unfolding dark_at seen_at
  seen_both a b f g = rw (← beside_it a b (omega arith) (omega arith)) (either_way (ltb a width && ltb b height) _ _)

  module _ (wide : width ≤ longest_side) (tall : height ≤ longest_side) where
    -- what two rounded coordinates show is what is seen at their places
    seen_in_lem : (p q : Option ℤ) → ((n : ℕ) → p ≡ Some (pos n) → n < 2 ^ 31) → ((n : ℕ) → q ≡ Some (pos n) → n < 2 ^ 31) → dark_in pic width height (placed p q) ≡ seen_at pic width height (along p) (along q)
    unfolding dark_in placed dark_at along
    seen_in_lem (Some (pos a)) (Some (pos b)) f g = seen_both a b (f a refl) (g b refl)
    seen_in_lem (Some (pos a)) (Some (negsuc b)) f g = let h = f a refl in beside_it a (2 ^ 31) (omega arith) (omega arith) ∙ seen_below a (2 ^ 31) (omega arith)
    seen_in_lem (Some (pos a)) None f g = let h = f a refl in nowhere_down a (2 ^ 31 + 1) (omega arith) (omega arith) ∙ seen_below a (2 ^ 31 + 1) (omega arith)
    seen_in_lem (Some (negsuc a)) (Some (pos b)) f g = let h = g b refl in beside_it (2 ^ 31) b (omega arith) (omega arith) ∙ seen_behind (2 ^ 31) b (omega arith)
    seen_in_lem (Some (negsuc a)) (Some (negsuc b)) f g = beside_it (2 ^ 31) (2 ^ 31) (omega arith) (omega arith) ∙ seen_behind (2 ^ 31) (2 ^ 31) (omega arith)
    seen_in_lem (Some (negsuc a)) None f g = nowhere_down (2 ^ 31) (2 ^ 31 + 1) (omega arith) (omega arith) ∙ seen_behind (2 ^ 31) (2 ^ 31 + 1) (omega arith)
    seen_in_lem None q f g = nowhere_across (2 ^ 31 + 1) (along q) (omega arith) ∙ seen_behind (2 ^ 31 + 1) (along q) (omega arith)

    -- what is shown where a point of the grid lies is that point
    pub point_landed : (c : Perspective) (u v : Float) → point_of pic width height c u v ≡ point_at pic width height (landed c u v)
    unfolding point_of mapped point_at landed
    point_landed c u v = seen_in_lem (nearest_of (map_x c u v)) (nearest_of (map_y c u v)) (few (map_x c u v)) (few (map_y c u v))

    -- and the same of the three points of a line
    pub line_landed : (c : Perspective) (x v : Float) → line_of pic width height c x v ≡ line_at pic width height (landed_line c x v)
    unfolding line_of line_at landed_line
    line_landed c x v = simp (point_landed c)
