-- What `map` answers means what document 01 says: both coordinates are the nearest whole numbers, and there is no answer exactly where one of them is no `i32`. Assumes nothing.
use Rattle.std.specs.Prelude.{Option, Some, None}
use Prim.Native.Nat.{ℕ}
use mathlib.Core.Path.{◌≡◌, refl}
use native.Mathlib.Omega.{arith}
use lib.IntN.{ℤ}
use lib.Ieee.{Float}
use mir.Syntax.{w32}
use mir.Val.{SFits}
use Rattle.refusals.specs.Finding.{found, refused}
use Rattle.rounding.specs.Nearest.{Rounds, nearest_of}
use Rattle.rounding.proofs.Only.{nearest_at, nearest_off}
use Rattle.points.specs.declared.Point.{Point}
use Rattle.geometry.specs.Map.{meaning, placed, map_x, map_y, mapped}
use Rattle.geometry.specs.declared.Perspective.{Perspective}

-- two answers that mean the same are the same
pub meaning_only : (r s : Option Point) → meaning r ≡ meaning s → r ≡ s
meaning_only (Some p) (Some q) e = cc
meaning_only (Some p) None e = let z : ◌≡◌ {A = ℕ} 0 1 = cc in absurd (omega arith)
meaning_only None (Some q) e = let z : ◌≡◌ {A = ℕ} 0 1 = cc in absurd (omega arith)
meaning_only None None e = refl

-- a float that rounds to an `i32`
abbrev pub Placeable : Float → Type 0
Placeable x = (z : ℤ) × Rounds x z × SFits w32 z

-- q is where the quotients x and y round to
pub record PlacedAt (x y : Float) (q : Point) : Type 0 where
  pub across : Rounds x q.x
  pub across_fits : SFits w32 q.x
  pub down : Rounds y q.y
  pub down_fits : SFits w32 q.y

both : (x y : Float) (q : Point) (a b : Option ℤ) → nearest_of x ≡ a → nearest_of y ≡ b → placed a b ≡ found q → PlacedAt x y q
unfolding placed
both x y q (Some i) (Some j) ex ey e =
    let ix : i ≡ q.x = cc in
    let jy : j ≡ q.y = cc in
    let across = nearest_at x q.x (cc) in
    let down = nearest_at y q.y (cc) in
    record { across = across.0; across_fits = across.1; down = down.0; down_fits = down.1 }
both x y q (Some i) None ex ey e = let z : ◌≡◌ {A = ℕ} 0 1 = cc in absurd (omega arith)
both x y q None b ex ey e = let z : ◌≡◌ {A = ℕ} 0 1 = cc in absurd (omega arith)

pub mapped_found : (p : Perspective) (u v : Float) (q : Point) → mapped p u v ≡ found q → PlacedAt (map_x p u v) (map_y p u v) q
unfolding mapped
mapped_found p u v q e = both (map_x p u v) (map_y p u v) q (nearest_of (map_x p u v)) (nearest_of (map_y p u v)) refl refl e

neither : (x y : Float) (n : ℕ) (a b : Option ℤ) → nearest_of x ≡ a → nearest_of y ≡ b → placed a b ≡ refused n → (n ≡ 13) × (Placeable x → Placeable y → ⊥)
unfolding placed
neither x y n (Some i) (Some j) ex ey e = let z : ◌≡◌ {A = ℕ} 0 1 = cc in absurd (omega arith)
neither x y n (Some i) None ex ey e = ((cc), (λ hx hy. nearest_off y hy.0 ey hy.1 hy.2))
neither x y n None b ex ey e = ((cc), (λ hx hy. nearest_off x hx.0 ex hx.1 hx.2))

pub mapped_refused : (p : Perspective) (u v : Float) (n : ℕ) → mapped p u v ≡ refused n → (n ≡ 13) × (Placeable (map_x p u v) → Placeable (map_y p u v) → ⊥)
unfolding mapped
mapped_refused p u v n e = neither (map_x p u v) (map_y p u v) n (nearest_of (map_x p u v)) (nearest_of (map_y p u v)) refl refl e
